pub mod Openers
pub mod Written
pub mod Ups
