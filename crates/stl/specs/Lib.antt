pub mod Files
pub mod Calls
pub mod Steps
