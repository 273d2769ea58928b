-- The laws of the program's input: Meaning says what is answered.
pub mod Feeding
pub mod Held
pub mod Ended
pub mod Chars
pub mod Lines
pub mod Judged
pub mod Texts
pub mod Meaning
pub mod Vectors
