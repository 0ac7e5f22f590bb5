pub mod Areas
pub mod Boxes
pub mod Stats
