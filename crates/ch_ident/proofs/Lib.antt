pub mod Takes
pub mod Fields
pub mod Identifiers
pub mod Messages
