pub mod Determined
pub mod Admitting
pub mod Rays
