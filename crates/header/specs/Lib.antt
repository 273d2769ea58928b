-- What the three files' headers say.
pub mod Meaning
pub mod Reading
pub mod Bounds
