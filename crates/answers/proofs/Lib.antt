pub mod SignedLaws
pub mod BackLaws
pub mod Determined
pub mod Words
