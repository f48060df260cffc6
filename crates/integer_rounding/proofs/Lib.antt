pub mod SignificantBits
pub mod Steps
pub mod Sums
pub mod Picks
pub mod Rounded
