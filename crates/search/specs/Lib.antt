pub mod Keys
pub mod Nearby
