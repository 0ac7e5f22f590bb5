pub mod RunLaws
pub mod Streaming
pub mod Determined
