pub mod Told
pub mod Dialed
pub mod Plainly
pub mod Together
pub mod Logs
