-- The refusals' numbers and places.
pub mod Meaning
