mod Quotients
mod Operations
mod Terms
pub mod Chains
