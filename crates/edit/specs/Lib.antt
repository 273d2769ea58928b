-- What the edits of a font's mappings answer and leave.
pub mod Reading
pub mod Bounds
