-- Entries fed part by part.
pub mod Reading
