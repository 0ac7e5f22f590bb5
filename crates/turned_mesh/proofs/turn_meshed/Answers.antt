-- `turned_mesh::turn_meshed` meets its contract: each answer is a line of the definition.
-- Assumes nothing.
use Rattle.turned_mesh.proofs.turn_meshed.Goals as goal

pub turn_triangles-requires : goal.turn_triangles-requires
turn_triangles-requires c = c.requires _ _ c.in-Ok.is

pub returns-in-Ok : goal.returns-in-Ok
returns-in-Ok c =
    let turned = c.turn_triangles.ensures in
    let told = c.in-Ok.is in
    record {
      t1_after = rw told turned.t1_after;
      t2_after = rw told turned.t2_after;
    }
