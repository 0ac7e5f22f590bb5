pub mod Vectors
pub mod Reading
