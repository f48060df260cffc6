pub mod Parts
pub mod Exits
