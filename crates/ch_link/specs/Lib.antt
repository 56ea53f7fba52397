pub mod Table
pub mod Sockets
