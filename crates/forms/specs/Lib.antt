pub mod Reading
pub mod Sorts
