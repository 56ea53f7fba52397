pub mod Ender
