-- The two codings as one.
pub mod Meaning
pub mod Reading
