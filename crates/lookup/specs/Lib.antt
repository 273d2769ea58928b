-- Looking things up in a table, and what it is for a description to list something.
pub mod Meaning
pub mod Reading
