-- The laws of the reader, and PSF1's two bytes as an instance of a coding's laws.
pub mod Words
pub mod Pairs
pub mod Sizes
pub mod Coding
pub mod Stops
pub mod Growing
