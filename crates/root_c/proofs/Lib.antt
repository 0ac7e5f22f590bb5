-- What is proved of the function for C.
pub mod Determined
