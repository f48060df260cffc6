pub mod Counts
pub mod OneMore
