-- Numbers as text.
pub mod Meaning
pub mod Reading
