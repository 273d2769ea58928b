-- What the questions about a table answer.
pub mod Reading
