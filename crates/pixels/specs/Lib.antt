-- Two bitmaps compared by their pixels.
pub mod Reading
