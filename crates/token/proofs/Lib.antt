-- The laws that a coding keeps: each coding's crate proves its own instance, and the table's laws are proved from them once; and the test for a
-- noncharacter.
pub mod Sized
pub mod Coded
pub mod Stopping
pub mod Growing
pub mod Noncharacters
