-- Bytes moved within a buffer.
pub mod Reading
