pub mod Spots
pub mod Winding
pub mod Facing
pub mod Steps
