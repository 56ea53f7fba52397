pub mod Ids
pub mod Open
