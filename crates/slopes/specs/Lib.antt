pub mod Stored
pub mod Vertices
pub mod Normals
pub mod Read
