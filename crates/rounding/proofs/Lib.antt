pub mod Increments
pub mod Units
