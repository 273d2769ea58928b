-- The table: its grammar, its steps, the check, going over a table without its values, and what the check means.
pub mod Meaning
pub mod Reading
pub mod Bounds
pub mod Skipping
pub mod Walking
