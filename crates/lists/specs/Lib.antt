pub mod Places
pub mod Padding
pub mod Lists
pub mod Listing
pub mod Threes
pub mod Beside
