pub mod Spelled
pub mod Sayings
