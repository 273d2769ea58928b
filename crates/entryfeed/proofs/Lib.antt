-- Laws of entries fed part by part.
pub mod Scanning
pub mod Feeding
