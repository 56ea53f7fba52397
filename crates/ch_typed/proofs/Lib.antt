pub mod Comings
