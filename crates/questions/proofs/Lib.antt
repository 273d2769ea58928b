-- Laws of the questions that their proofs cite.
pub mod Answers
