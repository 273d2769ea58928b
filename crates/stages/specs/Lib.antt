-- The check of a font, stage by stage.
pub mod Meaning
pub mod Reading
pub mod Bounds
