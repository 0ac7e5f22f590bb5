pub mod RowLaws
pub mod Laying
pub mod Checking
pub mod Putting
pub mod Keeping
pub mod Determined
pub mod StoredLaws
pub mod SettingsLaws
