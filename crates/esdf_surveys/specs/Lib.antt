pub mod Within
pub mod Statistics
pub mod Steps
