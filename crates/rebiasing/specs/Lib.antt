pub mod Rebiased
