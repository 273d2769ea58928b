-- The laws of the listing; those to read first are in Meaning.
pub mod Words
pub mod Answers
pub mod Meaning
pub mod Vectors
