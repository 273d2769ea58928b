-- Noncharacters.
pub mod Meaning
pub mod Reading
