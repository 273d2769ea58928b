-- The program's input and its answer.
pub mod Reading
pub mod Meaning
