-- The lines that both programs write.
pub mod Meaning
