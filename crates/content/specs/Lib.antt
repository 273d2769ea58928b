-- What a font is, whatever its kind of file.
pub mod Meaning
