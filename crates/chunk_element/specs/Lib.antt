pub mod Settings
pub mod Place
