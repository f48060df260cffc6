pub mod Exact
pub mod Past
