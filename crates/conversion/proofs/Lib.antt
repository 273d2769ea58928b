-- Laws of what comes before a conversion.
pub mod Cases
pub mod Ready
