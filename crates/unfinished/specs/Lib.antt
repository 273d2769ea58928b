-- Unfinished bytes.
pub mod Reading
