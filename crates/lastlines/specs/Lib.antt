pub mod Lastcheck
pub mod Steps
