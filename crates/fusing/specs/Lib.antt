pub mod Fusing
pub mod Steps
