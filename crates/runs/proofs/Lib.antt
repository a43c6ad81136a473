pub mod Walking
pub mod Rolled
