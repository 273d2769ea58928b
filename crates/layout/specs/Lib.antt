-- A written font.
pub mod Reading
pub mod Bounds
