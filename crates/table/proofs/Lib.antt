-- The laws of the table; those to read first are in Meaning.
pub mod Meaning
pub mod Stepping
pub mod Firsts
pub mod Telling
pub mod Skipping
pub mod Turning
pub mod Plainly
pub mod Halting
pub mod Accepts
pub mod Moves
pub mod Answers
pub mod Reading
pub mod EndToEnd
pub mod Places
pub mod Numbers
pub mod Walking
