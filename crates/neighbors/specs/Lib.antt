pub mod Neighbors
pub mod Steps
