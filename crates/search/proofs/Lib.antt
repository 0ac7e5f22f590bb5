pub mod KeyLaws
pub mod NearbyLaws
pub mod Determined
