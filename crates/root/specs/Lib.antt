pub mod Root
pub mod Nearest
pub mod Steps
