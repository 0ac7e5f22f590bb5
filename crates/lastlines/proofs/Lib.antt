pub mod LineLaws
pub mod RoundTrip
pub mod Samples
pub mod Determined
