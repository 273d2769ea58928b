-- The loader.
pub mod Meaning
pub mod Reading
pub mod Bounds
