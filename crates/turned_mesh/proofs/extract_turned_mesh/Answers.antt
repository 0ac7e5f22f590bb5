-- `turned_mesh::extract_turned_mesh` meets its contract: the closed mesh, turned.
-- Assumes nothing.
use Rattle.turned_mesh.proofs.CallLaws.{ready_by, turned_mesh}
use Rattle.turned_mesh.proofs.extract_turned_mesh.Goals as goal

pub turn_meshed-requires : goal.turn_meshed-requires
turn_meshed-requires c = ready_by _ _ _ _ _ _ _ _ _ _ _ _ _ _ _ _ _ _ c.extract_closed_mesh-meshed.ensures

pub returns : goal.returns
returns c =
    turned_mesh _ _ _ _ _ _ _ _ _ _ _ _ _ _ _ _ _ _ c.extract_closed_mesh-meshed.ensures _ _ c.turn_meshed.ensures.t1_after
    c.turn_meshed.ensures.t2_after
