pub mod Corners
pub mod Closing
pub mod Steps
