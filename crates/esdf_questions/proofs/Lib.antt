-- Laws on a marched table.
pub mod Answers
pub mod Determined
pub mod Walking
