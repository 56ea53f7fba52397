pub mod Names
pub mod Outcome
pub mod Spelling
pub mod Reading
pub mod Fits
