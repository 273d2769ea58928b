-- A table fed part by part.
pub mod Reading
pub mod Bounds
