pub mod States
pub mod Node
pub mod World
