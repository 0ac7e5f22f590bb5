pub mod Triangles
pub mod TriangleList
pub mod Building
pub mod Steps
