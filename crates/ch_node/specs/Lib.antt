pub mod Kept
pub mod Stages
pub mod Calls
pub mod Bindings
pub mod Keys
pub mod Incoming
