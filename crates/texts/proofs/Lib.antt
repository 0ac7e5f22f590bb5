pub mod WritingLaws
pub mod Determined
pub mod Samples
