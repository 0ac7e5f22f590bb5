pub mod Determined
pub mod BackLaws
