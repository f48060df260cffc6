pub mod Exits
pub mod Passing
