pub mod Numbers
pub mod AddressValues
pub mod Addresses
pub mod Outside
pub mod Memory
