pub mod Tables
pub mod Grammars
pub mod ReadingState
pub mod Reading
