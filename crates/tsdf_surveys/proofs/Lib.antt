pub mod Determined
pub mod RowByRow
pub mod Samples
pub mod Answers
