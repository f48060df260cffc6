pub mod Distances
pub mod Bytes
