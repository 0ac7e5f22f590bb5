pub mod Sides
pub mod Rings
