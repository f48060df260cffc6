pub mod Integral
pub mod Whole
