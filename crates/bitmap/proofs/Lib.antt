-- Laws of bitmaps.
pub mod Places
