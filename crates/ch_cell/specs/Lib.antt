pub mod Stops
pub mod Seats
pub mod Items
pub mod Did
pub mod New
pub mod Kept
pub mod Replay
