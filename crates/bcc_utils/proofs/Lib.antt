pub mod Words
pub mod Candidates
pub mod SnapLaws
pub mod PlaceLaws
pub mod Determined
pub mod Samples
