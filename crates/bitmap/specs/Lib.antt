-- A glyph's bitmap, its rows, its pixels and its metrics.
pub mod Meaning
pub mod Reading
pub mod Bounds
