mod Models
mod Plays
