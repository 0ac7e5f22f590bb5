pub mod VertexLaws
pub mod Determined
