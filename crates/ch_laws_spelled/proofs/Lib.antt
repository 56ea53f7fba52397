pub mod Fields
pub mod ReadLines
pub mod NamesFit
pub mod LinesWell
pub mod LogWell
pub mod Fronts
pub mod Follows
pub mod Sayings
