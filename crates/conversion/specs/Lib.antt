-- The conversions: from where to where, what is written, and what refuses them.
pub mod Meaning
pub mod Reading
pub mod Bounds
