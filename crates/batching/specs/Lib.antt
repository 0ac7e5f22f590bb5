pub mod Batches
pub mod Steps
pub mod Read
