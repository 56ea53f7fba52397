pub mod Cuts
pub mod Turns
pub mod LinesRead
pub mod Pieces
pub mod Replays
pub mod Tops
