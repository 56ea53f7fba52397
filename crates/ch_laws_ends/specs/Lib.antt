pub mod Agree
pub mod Lines
pub mod Scenes
