pub mod Fields
pub mod Widenings
pub mod Signs
