-- Reading and writing one value in UTF-8.
pub mod Meaning
pub mod Reading
pub mod Bounds
