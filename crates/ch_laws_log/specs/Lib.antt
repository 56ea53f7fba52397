pub mod Agrees
pub mod Lines
pub mod Declared
pub mod Scenes
pub mod HostEnds
pub mod WorldEnds
