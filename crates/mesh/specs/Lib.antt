pub mod Mesh
pub mod Steps
