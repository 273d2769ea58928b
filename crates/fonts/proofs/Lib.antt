-- Laws of the public calls that their proofs cite. What the calls mean is in the crate `laws`.
pub mod Views
pub mod Asking
