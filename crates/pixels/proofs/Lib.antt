-- Laws of bitmaps that are compared.
pub mod Turns
pub mod Bits
pub mod Meaning
