-- Singles of a glyph's description: added, dropped, and where they stand in a table's bytes.
pub mod Meaning
pub mod Reading
pub mod Bounds
