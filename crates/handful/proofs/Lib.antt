pub mod PlacingLaws
pub mod Determined
