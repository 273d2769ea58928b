-- The listing of a font.
pub mod Meaning
pub mod Reading
