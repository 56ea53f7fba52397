pub mod Calm
pub mod Numbered
pub mod Cells
pub mod Told
pub mod Worlds
