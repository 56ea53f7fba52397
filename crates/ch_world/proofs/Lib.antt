pub mod EventLines
pub mod Found
pub mod Histories
pub mod Told
pub mod Declares
pub mod Addresses
