pub mod Steps
pub mod Compute
