pub mod March
pub mod Lattice
pub mod Promises
pub mod Spreading
pub mod Crowding
