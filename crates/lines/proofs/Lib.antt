pub mod ReadingLaws
pub mod LongLines
pub mod Determined
pub mod Samples
