-- Two descriptions, side by side.
pub mod Reading
