pub mod Rows
pub mod Integers
pub mod IntToFloat
