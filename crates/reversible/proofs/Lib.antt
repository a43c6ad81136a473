pub mod Runs
pub mod Mapped
pub mod Ledgers
