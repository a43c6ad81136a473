pub mod Layout
pub mod Held
