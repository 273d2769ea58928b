-- The differences of two fonts.
pub mod Meaning
pub mod Reading
pub mod Placing
pub mod Walking
