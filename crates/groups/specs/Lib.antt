pub mod Groups
pub mod CellEdges
pub mod Near
pub mod Steps
