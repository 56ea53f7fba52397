pub mod Running
pub mod Steps
pub mod Replayed
pub mod Outside
pub mod Words
pub mod Ends
