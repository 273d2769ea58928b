-- The laws of texts and numbers; what a numeral is stands in Numerals.
pub mod Digits
pub mod Numerals
pub mod Putting
