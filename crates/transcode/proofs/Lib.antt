-- The laws of a table written in another coding; those to read first are in Meaning.
pub mod Turns
pub mod Measuring
pub mod Meaning
