pub mod Tables
pub mod Either
