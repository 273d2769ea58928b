pub mod Metrics
pub mod Cases
