-- Both codings keep the laws of a coding.
pub mod Codings
pub mod Written
