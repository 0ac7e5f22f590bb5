pub mod StepLaws
pub mod WayLaws
pub mod NeighborLaws
pub mod Adjacency
pub mod Samples
pub mod Determined
