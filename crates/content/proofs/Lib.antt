-- The laws of a font's content.
pub mod Stretches
pub mod Tails
pub mod Tables
pub mod Magic
pub mod Headers
pub mod Evens
pub mod Gathered
pub mod Shapes
pub mod Source
pub mod Found
pub mod Dispatch
pub mod Written
pub mod Octets
pub mod Same
pub mod Self
pub mod Kept
