pub mod AreaLaws
pub mod BoxLaws
pub mod Samples
pub mod Determined
pub mod Roots
