pub mod Checks
pub mod Typed
