pub mod Given
pub mod UnbrokenBreaks
pub mod UnbrokenGiven
pub mod OnceBegun
pub mod OnceOnce
pub mod RaceCallsUnshut
