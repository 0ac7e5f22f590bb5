pub mod WordLaws
pub mod Determined
