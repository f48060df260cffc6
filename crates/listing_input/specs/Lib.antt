pub mod Input
pub mod Layouts
