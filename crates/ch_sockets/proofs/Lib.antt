pub mod Places
pub mod Named
pub mod Fresh
pub mod NameTables
pub mod EndTables
pub mod Kept
