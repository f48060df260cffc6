pub mod Scale
pub mod Bounds
