pub mod Worlds
pub mod Order
pub mod ManyNodes
pub mod OneOfMany
pub mod OneAsMany
