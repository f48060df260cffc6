pub mod Ranks
pub mod Successor
pub mod Mirror
