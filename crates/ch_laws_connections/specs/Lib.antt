pub mod Tables
pub mod Senders
pub mod Fits
pub mod Taken
pub mod Scenes
pub mod Arrivals
