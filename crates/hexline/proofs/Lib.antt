-- The laws of one line: Meaning says which lines are frames.
pub mod Steps
pub mod Digits
pub mod Meaning
