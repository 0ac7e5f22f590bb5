-- `mesh::check` meets its contract: the tests of a call, with its own lists.
-- Assumes nothing.
use Rattle.mesh.specs.Mesh.{mesh_check}
use Rattle.mesh.proofs.check.Goals as goal

pub returns : goal.returns
unfolding mesh_check
returns c = rw (← c.rooms_ok.ensures) c.check_with.ensures
