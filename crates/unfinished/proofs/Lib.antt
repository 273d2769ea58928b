-- Laws of unfinished bytes.
pub mod Holding
