pub mod Equal
pub mod Floats
pub mod Ieee
pub mod Integers
pub mod Entries
