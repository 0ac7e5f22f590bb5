pub mod Snapping
pub mod Metres
pub mod Steps
