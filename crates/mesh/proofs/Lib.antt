pub mod OpenLaws
pub mod ShutLaws
pub mod MeshLaws
pub mod Calls
pub mod ClosedCalls
pub mod Determined
