pub mod Float
pub mod Kind
pub mod Value
pub mod Pattern
