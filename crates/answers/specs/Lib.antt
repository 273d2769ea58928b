-- The answers as C reads them.
pub mod Meaning
