pub mod Marking
pub mod Walking
pub mod Stepping
