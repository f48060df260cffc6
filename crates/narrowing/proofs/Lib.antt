pub mod Carried
pub mod Magnitudes
pub mod Formats
pub mod Specials
pub mod Rows
