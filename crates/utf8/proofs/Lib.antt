-- The laws of the reader, and UTF-8 as an instance of a coding's laws.
pub mod Rows
pub mod Written
pub mod Permitted
pub mod Conts
pub mod First
pub mod Ascii
pub mod Itself
pub mod Sizes
pub mod Writing
pub mod Reading
pub mod Coding
pub mod Stops
pub mod Growing
pub mod Plain
pub mod Lengths
