pub mod Naming
pub mod Standing
pub mod Cells
pub mod Risings
pub mod Scenes
