-- Laws on plain numbers and floats that the functions' proofs cite, and what is proved of the root.
pub mod Whole
pub mod Rounded
pub mod Leading
pub mod Patterns
pub mod Taken
pub mod Correct
pub mod Answers
pub mod Determined
pub mod Samples
