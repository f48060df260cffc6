pub mod NanPatterns
pub mod Pairs
pub mod Stored
