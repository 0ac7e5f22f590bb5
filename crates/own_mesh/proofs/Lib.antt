pub mod OwnMesh
