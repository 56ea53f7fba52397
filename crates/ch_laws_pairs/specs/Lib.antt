pub mod Askers
pub mod Users
pub mod Scenes
pub mod Dials
