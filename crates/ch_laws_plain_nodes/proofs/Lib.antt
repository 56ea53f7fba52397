pub mod Openings
pub mod Lists
pub mod Steps
pub mod Sends
pub mod Calls
pub mod Events
pub mod Commands
