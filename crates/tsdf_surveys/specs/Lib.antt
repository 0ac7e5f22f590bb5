pub mod Surface
pub mod Statistics
