pub mod Fits
pub mod Nans
pub mod Patterns
