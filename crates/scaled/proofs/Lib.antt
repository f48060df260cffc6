pub mod Magnitudes
pub mod Normalized
