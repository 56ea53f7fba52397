pub mod Names
pub mod Sockets
pub mod Steps
pub mod Happenings
pub mod Journals
