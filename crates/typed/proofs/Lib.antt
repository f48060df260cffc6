pub mod Pairs
pub mod Places
pub mod RefusedNan
pub mod Turns
pub mod Unmet
