-- The laws of moves within a buffer.
pub mod Moves
