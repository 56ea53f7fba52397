pub mod Passage
pub mod Moves
pub mod Log
pub mod Whole
pub mod Stray
pub mod Invariant
pub mod Rows
pub mod Wrong
