-- Laws that the proofs of every layer share.
pub mod Tests
pub mod Chain
pub mod Ranged
pub mod Parts
pub mod Lists
pub mod Over
pub mod Written
pub mod Numbers
pub mod Begins
pub mod Handed
