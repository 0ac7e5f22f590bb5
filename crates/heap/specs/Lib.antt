pub mod Heap
pub mod Steps
pub mod Entries
