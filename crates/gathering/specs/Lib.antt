pub mod Gathering
pub mod Steps
