-- Laws on the march's code.
pub mod Computing
pub mod Determined
pub mod Passing
