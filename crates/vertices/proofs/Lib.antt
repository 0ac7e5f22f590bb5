pub mod Columns
pub mod TableLaws
pub mod Determined
