-- Reading and writing one value in PSF1's two bytes.
pub mod Meaning
pub mod Reading
