pub mod Edges
pub mod EdgeList
pub mod ZeroCrossing
pub mod Surfaces
pub mod Listing
pub mod Steps
