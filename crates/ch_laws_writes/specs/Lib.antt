pub mod Dues
pub mod Orderly
pub mod Writings
pub mod Scenes
