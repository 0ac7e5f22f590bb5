pub mod Determined
pub mod Walking
pub mod Answers
