-- `mesh::extract` meets its contract: the surface is drawn, its vertices are worked out from the edges that the lists then hold, and each list is
-- settled by the answer.
-- Assumes nothing.
use mathlib.Core.Path.{refl, sym, ◌∙◌}
use lib.ListN.{length}
use Rattle.table.specs.Table.{table}
use Rattle.mesh.specs.declared.Rooms.{Rooms}
use Rattle.mesh.specs.Mesh.{rooms as rooms_of}
use Rattle.mesh.proofs.MeshLaws.{passing, Run, answer_is, first_settled, second_settled, px_settled, py_settled, pz_settled, nx_settled, ny_settled, nz_settled, groups_settled, t0_settled, t1_settled, t2_settled}
use Rattle.mesh.proofs.extract.Goals as goal

pub draw-drawn-requires : goal.draw-drawn-requires
draw-drawn-requires c =
    let a = c.args in
    λ told.
    passing a.surface a.settings a.rows.now.keys.now a.rows.now.distances.now a.rows.now.weights.now a.rows.now.count
    (rooms_of (length a.first.now) (length a.second.now) (length a.px.now) (length a.py.now)
    (length a.pz.now) (length a.nx.now) (length a.ny.now) (length a.nz.now)
    (length a.groups.now) (length a.t0.now) (length a.t1.now) (length a.t2.now))
    (sym c.check-verdict.ensures ∙ told)

pub returns : goal.returns
returns c =
    let a = c.args in
    let r : Rooms =
    rooms_of (length a.first.now) (length a.second.now) (length a.px.now) (length a.py.now)
    (length a.pz.now) (length a.nx.now) (length a.ny.now) (length a.nz.now)
    (length a.groups.now) (length a.t0.now) (length a.t1.now) (length a.t2.now) in
    let l = c.draw-drawn.new in
    let d = c.draw-drawn.auto in
    let v = c.list_vertices.ensures in
    let edges = c.settle_edges.ensures in
    let places = c.settle_places.ensures in
    let normals = c.settle_places-2.ensures in
    let triangles = c.settle_triangles.ensures in
    -- what was done
    let run : Run a.surface a.settings (table a.rows.now.keys.now a.rows.now.distances.now a.rows.now.weights.now a.rows.now.count) r
    c.check-verdict.result c.draw-drawn.result c.count_of-n.result c.answer-meshed.result
    l.first l.second l.groups l.t0 l.t1 l.t2 =
    record {
      tested = c.check-verdict.ensures;
      drawn = c.draw-drawn.ensures;
      count = c.count_of-n.ensures;
      answered = c.answer-meshed.ensures;
    } in
    record {
      answer = answer_is run;
      first = first_settled run _ d.first edges.first_after;
      second = second_settled run _ d.second edges.second_after;
      px = px_settled run _ _ _ refl v.px_after places.x_after;
      py = py_settled run _ _ _ refl v.py_after places.y_after;
      pz = pz_settled run _ _ _ refl v.pz_after places.z_after;
      nx = nx_settled run _ _ _ refl v.nx_after normals.x_after;
      ny = ny_settled run _ _ _ refl v.ny_after normals.y_after;
      nz = nz_settled run _ _ _ refl v.nz_after normals.z_after;
      groups = groups_settled run _ d.groups triangles.groups_after;
      t0 = t0_settled run _ d.t0 triangles.t0_after;
      t1 = t1_settled run _ d.t1 triangles.t1_after;
      t2 = t2_settled run _ d.t2 triangles.t2_after;
    }
