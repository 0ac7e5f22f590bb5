pub mod Marching
pub mod Meshing
