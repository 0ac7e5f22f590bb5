-- Laws on the march.
pub mod KeysOnce
pub mod Sound
pub mod Crowding
pub mod Wider
pub mod Rows
pub mod Looking
pub mod Bounded
pub mod Lattice
pub mod Least
pub mod Small
pub mod Hearing
pub mod Facts
pub mod Samples
pub mod Spreading
pub mod Telling
pub mod Numbers
