-- `vertices::list_normals` meets its contract: what is left of the edges says what all of them say.
use Prim.Native.Nat.{◌≤◌, ◌<◌, min}
use mathlib.Core.Path.{◌≡◌, refl, ◌∙◌}
use native.Mathlib.Omega.{arith}
use lib.ListN.{length, length-take, get_or, take}
use lib.Seq.{get_or-take}
use Rattle.slopes.specs.declared.Normal.{Normal}
use Rattle.slopes.specs.Stored.{distance_by}
use Rattle.vertices.proofs.Columns.{column_more, column_done, normal_next, normals_end}
use Rattle.vertices.proofs.list_normals.Goals as goal

pub loop-i-init : goal.loop-i-init
loop-i-init c = (c.min-n.ensures, c.compute_normal-normal.ensures, refl, refl, refl, refl, refl, refl)

pub next_normal-normal-requires : goal.next_normal-normal-requires
next_normal-normal-requires c = c.loop-i.invariant.1

pub loop-i-preserved : goal.loop-i-preserved
loop-i-preserved c =
    let v = c.loop-i.invariant in
    let i = c.loop-i.i in
    let a = c.args in
    let h : i < min a.edges (length a.first.now) = omega (arith, v.0, c.loop-i-test.true, length-take c.min-n.result a.first.now) in
    let t = c.next_normal-normal.ensures in
    let key : get_or (take c.min-n.result a.first.now) i 0 ≡ get_or a.first.now i 0 = get_or-take c.min-n.result a.first.now i 0 (omega (arith, v.0)) in
    let next = normal_next (distance_by a.field.now.keys.now a.field.now.distances.now a.field.now.count) a.voxel_size.0 a.edges a.first.now i h in
    let nx = c.put.ensures in
    let ny = c.put-in-loop-i.ensures in
    let nz = c.put-in-loop-i-2.ensures in (
      v.0,
      t,
      c.put.auto.list ∙ v.2,
      c.put-in-loop-i.auto.list ∙ v.3,
      c.put-in-loop-i-2.auto.list ∙ v.4,
      v.5 ∙ column_more (λ (u : Normal). u.x) _ i _ _ _ _ next (nx ∙ rw (t, key)),
      v.6 ∙ column_more (λ (u : Normal). u.y) _ i _ _ _ _ next (ny ∙ rw (t, key)),
      v.7 ∙ column_more (λ (u : Normal). u.z) _ i _ _ _ _ next (nz ∙ rw (t, key)),
    )

pub returns-clause-nx_after : goal.returns-clause-nx_after
returns-clause-nx_after c =
    let v = c.loop-i.invariant in
    let a = c.args in
    let h : min a.edges (length a.first.now) ≤ c.loop-i.i = omega (arith, v.0, c.loop-i-test.false, length-take c.min-n.result a.first.now) in
    column_done (λ (u : Normal). u.x) _ c.loop-i.i _ _ v.5
    (normals_end (distance_by a.field.now.keys.now a.field.now.distances.now a.field.now.count) a.voxel_size.0 a.edges a.first.now c.loop-i.i h)

pub returns-clause-ny_after : goal.returns-clause-ny_after
returns-clause-ny_after c =
    let v = c.loop-i.invariant in
    let a = c.args in
    let h : min a.edges (length a.first.now) ≤ c.loop-i.i = omega (arith, v.0, c.loop-i-test.false, length-take c.min-n.result a.first.now) in
    column_done (λ (u : Normal). u.y) _ c.loop-i.i _ _ v.6
    (normals_end (distance_by a.field.now.keys.now a.field.now.distances.now a.field.now.count) a.voxel_size.0 a.edges a.first.now c.loop-i.i h)

pub returns-clause-nz_after : goal.returns-clause-nz_after
returns-clause-nz_after c =
    let v = c.loop-i.invariant in
    let a = c.args in
    let h : min a.edges (length a.first.now) ≤ c.loop-i.i = omega (arith, v.0, c.loop-i-test.false, length-take c.min-n.result a.first.now) in
    column_done (λ (u : Normal). u.z) _ c.loop-i.i _ _ v.7
    (normals_end (distance_by a.field.now.keys.now a.field.now.distances.now a.field.now.count) a.voxel_size.0 a.edges a.first.now c.loop-i.i h)
