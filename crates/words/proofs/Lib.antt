-- The line of a refusal.
pub mod Words
pub mod Vectors
