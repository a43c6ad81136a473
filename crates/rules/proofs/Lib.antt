pub mod Figures
pub mod Signs
