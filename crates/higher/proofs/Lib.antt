pub mod PlaceLaws
pub mod ColumnLaws
pub mod HigherLaws
pub mod Determined
