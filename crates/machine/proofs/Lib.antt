pub mod Chosen
mod Clears
