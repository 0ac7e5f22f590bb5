pub mod Sorting
pub mod Steps
