pub mod Parts
pub mod Classes
pub mod Shapes
pub mod Lines
pub mod Spelled
pub mod Respelled
pub mod WholeLines
