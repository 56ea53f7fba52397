pub mod Streams
pub mod Scene
