pub mod Rolls
pub mod Cells
pub mod Logs
