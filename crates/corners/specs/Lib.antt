pub mod Corners
pub mod Read
pub mod Steps
