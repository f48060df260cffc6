pub mod Found
pub mod FloatForms
pub mod Integers
pub mod SameKind
pub mod Widening
pub mod Steps
