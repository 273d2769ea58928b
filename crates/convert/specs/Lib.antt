-- What the conversions answer and write.
pub mod Reading
