-- Laws of the loader.
pub mod Parting
pub mod Opening
pub mod Cases
pub mod Shortness
