-- Laws of heaps.
pub mod Tallies
pub mod Orders
pub mod Moving
pub mod Choosing
pub mod Same
pub mod Laws
pub mod Sorting
pub mod Scattering
pub mod Determined
pub mod Samples
