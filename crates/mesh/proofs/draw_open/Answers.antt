-- `mesh::draw_open` meets its contract: the groups and the triangles are built from the edges that the lists then hold.
-- Assumes nothing.
use Rattle.mesh.proofs.OpenLaws.{drawn_open}
use Rattle.mesh.proofs.draw_open.Goals as goal

pub returns : goal.returns
returns c =
    let a = c.args in
    let e = c.list_tested-edges.ensures in
    let b = c.build_triangles-built.ensures in
    λ fit.
    drawn_open a.verdict a.rows.now.keys.now a.rows.now.distances.now a.rows.now.weights.now a.rows.now.count _ _ c.requires _ fit _ _ _ _ _ e.value
    e.first_after e.second_after c.count_of-n.ensures b.value _ _ _ _ b.groups_after b.t0_after b.t1_after b.t2_after
