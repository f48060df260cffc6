pub mod Report
pub mod Room
