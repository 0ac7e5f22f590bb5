pub mod WeightLaws
pub mod LoopLaws
pub mod Determined
