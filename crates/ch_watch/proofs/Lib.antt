pub mod Rising
pub mod NameTables
