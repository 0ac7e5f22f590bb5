pub mod Pathing
pub mod Seeking
pub mod Keeping
pub mod Circling
pub mod Entering
pub mod Leaving
pub mod Samples
pub mod Determined
