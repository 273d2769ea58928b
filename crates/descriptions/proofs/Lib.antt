pub mod Stepping
pub mod Meaning
