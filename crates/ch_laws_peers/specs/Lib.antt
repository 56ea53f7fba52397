pub mod Fair
pub mod Words
pub mod Says
pub mod Reads
pub mod Standing
