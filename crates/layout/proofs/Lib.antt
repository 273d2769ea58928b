-- The laws of the written parts.
pub mod Parts
