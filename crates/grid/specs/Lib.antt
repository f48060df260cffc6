pub mod Grid
pub mod Pick
pub mod Round
pub mod Ternary
