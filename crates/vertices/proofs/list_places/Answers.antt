-- `vertices::list_places` meets its contract: what is left of the edges says what all of them say.
use Prim.Native.Nat.{◌≤◌, ◌<◌, min}
use mathlib.Core.Path.{refl, ap, ◌∙◌}
use native.Mathlib.Omega.{arith}
use lib.ListN.{length}
use Rattle.slopes.specs.declared.Vertex.{Vertex}
use Rattle.slopes.specs.Stored.{distance_by}
use Rattle.vertices.proofs.Columns.{column_more, column_done, vertex_next, vertices_end}
use Rattle.vertices.proofs.list_places.Goals as goal

pub loop-i-init : goal.loop-i-init
loop-i-init c = (c.min-n.ensures ∙ ap (min _) c.min.ensures, refl, refl, refl, refl, refl, refl)

pub loop-i-preserved : goal.loop-i-preserved
loop-i-preserved c =
    let v = c.loop-i.invariant in
    let i = c.loop-i.i in
    let a = c.args in
    let h : i < min a.edges (min (length a.first.now) (length a.second.now)) = omega (arith, v.0, c.loop-i-test.true) in
    let t = c.vertex_at-v.ensures in
    let next = vertex_next (distance_by a.field.now.keys.now a.field.now.distances.now a.field.now.count) a.voxel_size.0 a.edges a.first.now a.second.now i h in
    let px = c.put.ensures in
    let py = c.put-in-loop-i.ensures in
    let pz = c.put-in-loop-i-2.ensures in (
      v.0,
      c.put.auto.list ∙ v.1,
      c.put-in-loop-i.auto.list ∙ v.2,
      c.put-in-loop-i-2.auto.list ∙ v.3,
      v.4 ∙ column_more (λ (u : Vertex). u.x.0) _ i _ _ _ _ next (px ∙ rw t),
      v.5 ∙ column_more (λ (u : Vertex). u.y.0) _ i _ _ _ _ next (py ∙ rw t),
      v.6 ∙ column_more (λ (u : Vertex). u.z.0) _ i _ _ _ _ next (pz ∙ rw t),
    )

pub returns-clause-px_after : goal.returns-clause-px_after
returns-clause-px_after c =
    let v = c.loop-i.invariant in
    let a = c.args in
    let h : min a.edges (min (length a.first.now) (length a.second.now)) ≤ c.loop-i.i = omega (arith, v.0) in
    column_done (λ (u : Vertex). u.x.0) _ c.loop-i.i _ _ v.4
    (vertices_end (distance_by a.field.now.keys.now a.field.now.distances.now a.field.now.count) a.voxel_size.0 a.edges a.first.now a.second.now c.loop-i.i h)

pub returns-clause-py_after : goal.returns-clause-py_after
returns-clause-py_after c =
    let v = c.loop-i.invariant in
    let a = c.args in
    let h : min a.edges (min (length a.first.now) (length a.second.now)) ≤ c.loop-i.i = omega (arith, v.0) in
    column_done (λ (u : Vertex). u.y.0) _ c.loop-i.i _ _ v.5
    (vertices_end (distance_by a.field.now.keys.now a.field.now.distances.now a.field.now.count) a.voxel_size.0 a.edges a.first.now a.second.now c.loop-i.i h)

pub returns-clause-pz_after : goal.returns-clause-pz_after
returns-clause-pz_after c =
    let v = c.loop-i.invariant in
    let a = c.args in
    let h : min a.edges (min (length a.first.now) (length a.second.now)) ≤ c.loop-i.i = omega (arith, v.0) in
    column_done (λ (u : Vertex). u.z.0) _ c.loop-i.i _ _ v.6
    (vertices_end (distance_by a.field.now.keys.now a.field.now.distances.now a.field.now.count) a.voxel_size.0 a.edges a.first.now a.second.now c.loop-i.i h)
