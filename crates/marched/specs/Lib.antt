pub mod Marched
pub mod Steps
pub mod Read
