-- One glyph of two fonts.
pub mod Reading
