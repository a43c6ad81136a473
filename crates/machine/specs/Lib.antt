pub mod Steps
pub mod Waiting
pub mod Acting
