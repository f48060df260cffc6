pub mod Sums
pub mod Places
pub mod Widths
pub mod Unique
pub mod Fetches
pub mod Witness
