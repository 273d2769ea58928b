-- Laws of the headers.
pub mod Cases
pub mod Known
pub mod Written
pub mod Front
