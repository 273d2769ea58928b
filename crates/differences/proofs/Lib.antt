pub mod Pairs
pub mod Cases
