-- The words of the statements.
pub mod Meaning
