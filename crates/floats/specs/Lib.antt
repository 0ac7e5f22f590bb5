pub mod Floats
pub mod Steps
