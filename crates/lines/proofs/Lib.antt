-- The laws of the lines.
pub mod Pieces
pub mod Described
