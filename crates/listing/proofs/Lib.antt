pub mod Unchanged
pub mod Calls
pub mod Exits
pub mod Written
pub mod Samples
