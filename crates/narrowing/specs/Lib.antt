pub mod Format
pub mod Fit
