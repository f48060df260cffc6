pub mod Writes
pub mod Numbers
