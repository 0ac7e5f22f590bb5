mod PatternLaws
mod ReadingLaws
pub mod Determined
