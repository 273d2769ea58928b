-- The laws of the walk and the lookups; those to read first are in Meaning.
pub mod Meaning
pub mod Vectors
pub mod Turns
pub mod Searching
pub mod Walking
pub mod Finding
pub mod Looking
pub mod Passing
