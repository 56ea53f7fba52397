pub mod Answers
pub mod Declaring
pub mod Held
pub mod Histories
pub mod Hosts
pub mod Lines
