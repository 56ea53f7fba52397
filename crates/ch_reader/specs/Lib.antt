pub mod Items
pub mod Streams
pub mod Reading
pub mod States
pub mod Runs
pub mod Keeping
pub mod Decoding
pub mod Laws
