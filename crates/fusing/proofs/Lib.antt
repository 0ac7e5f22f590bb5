pub mod Storing
pub mod Keeping
pub mod FuseLaws
pub mod Samples
pub mod Determined
