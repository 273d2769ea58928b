-- The dispatch table of a vfont2 file.
pub mod Meaning
pub mod Reading
