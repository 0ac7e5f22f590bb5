pub mod Lookups
pub mod Steps
