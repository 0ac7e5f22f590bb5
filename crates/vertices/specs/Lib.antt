pub mod EdgeVertices
pub mod StoredRows
