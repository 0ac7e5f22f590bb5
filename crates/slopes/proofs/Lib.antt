pub mod Determined
pub mod StoredLaws
pub mod Working
pub mod PartLaws
pub mod LengthLaws
pub mod Reach
