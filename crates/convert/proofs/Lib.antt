-- Laws of the conversions.
pub mod Cases
pub mod Asks
