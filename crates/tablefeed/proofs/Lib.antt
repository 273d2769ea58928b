-- Laws of a table fed part by part.
pub mod Cases
pub mod Turns
pub mod Running
pub mod Feeding
