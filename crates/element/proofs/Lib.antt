pub mod FloatRows
pub mod Integers
pub mod Refusals
