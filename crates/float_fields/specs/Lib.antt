pub mod Format
pub mod Formats
pub mod Parts
pub mod Widened
