-- `mesh::extract_mesh_from_tsdf` meets its contract: the mesh of the open surface.
-- Assumes nothing.
use Rattle.mesh.proofs.extract_mesh_from_tsdf.Goals as goal

pub returns : goal.returns
returns c = c.extract.ensures
