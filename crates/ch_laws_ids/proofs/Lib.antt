pub mod Hosts
pub mod Worlds
pub mod Asks
pub mod Kept
pub mod Logs
