pub mod Sets
pub mod Determined
