-- Laws of the whole check.
pub mod Cases
pub mod Small
