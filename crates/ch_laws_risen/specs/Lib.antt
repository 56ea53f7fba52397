pub mod Firsts
pub mod Risings
