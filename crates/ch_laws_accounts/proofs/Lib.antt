pub mod Told
pub mod Openers
pub mod Requests
pub mod ReadAddresses
pub mod Items
pub mod Written
pub mod Ups
