pub mod Lookups
pub mod Gradient
