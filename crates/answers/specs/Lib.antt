pub mod Given
pub mod Readings
