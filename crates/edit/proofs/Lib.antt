-- Laws of the edits.
pub mod Cases
