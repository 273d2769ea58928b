-- A table's items written in another coding.
pub mod Reading
pub mod Bounds
