-- Laws of the dispatch table.
pub mod Sums
pub mod Machine
pub mod Cases
pub mod Inverse
pub mod Meaning
