-- The lines of glyphs.
pub mod Meaning
pub mod Reading
