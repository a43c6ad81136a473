pub mod Tabs
pub mod Slices
pub mod Layers
