pub mod CountLaws
pub mod BatchLaws
pub mod Batching
pub mod Determined
