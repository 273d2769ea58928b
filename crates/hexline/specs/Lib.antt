-- One line of hexadecimal.
pub mod Meaning
pub mod Reading
