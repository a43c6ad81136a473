pub mod Endings
pub mod Walks
