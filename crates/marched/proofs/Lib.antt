pub mod MarchedLaws
pub mod Passing
pub mod Tests
pub mod Determined
