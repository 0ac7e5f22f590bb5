-- `triangles::fill` meets its contract: the cells that are left say what all of them say.
use Prim.Native.Nat.{ℕ, ◌≤◌, ◌<◌}
use mathlib.Core.List.{List}
use native.Mathlib.Omega.{arith}
use mathlib.Core.Path.{◌≡◌}
use lib.ListN.{length, take, length-take}
use Rattle.handful.specs.declared.Handful.{Handful}
use Rattle.handful.specs.Handfuls.{held, numbers_of}
use Rattle.groups.specs.Near.{group_in}
use Rattle.groups.proofs.Neighbourhoods.{group_few}
use Rattle.triangles.specs.Building.{source}
use Rattle.triangles.proofs.FillingLaws.{filling_begun, filling_turn, filling_done, group_known}
use Rattle.triangles.proofs.fill.Goals as goal

-- the numbers are the cell's group, and at most 14
near : {g : Handful} {numbers : List ℕ} (fs ss : List ℕ) (edges cell : ℕ)
    → numbers ≡ numbers_of g
    → g ≡ held (group_in fs ss edges cell)
    → (numbers ≡ group_in fs ss edges cell) × (length numbers ≤ 14)
near fs ss edges cell n e =
    let same = group_known (group_in fs ss edges cell) n e in
    (same, rw same (group_few fs ss edges cell))

pub loop-cell-init : goal.loop-cell-init
loop-cell-init c = (omega arith, omega arith, filling_begun _ _ _ _ _ _)

pub put_threes-requires : goal.put_threes-requires
put_threes-requires c =
    let some : 0 < c.args.n = omega (arith, c.loop-cell-test.true, length-take c.args.n c.args.keys.now) in
    let w = c.loop-cell.invariant.2 in
    let up = c.requires.second some in
    let down = c.requires.third some in
    (omega (arith, w.ones.long, w.twos.long), omega (arith, w.ones.long, w.threes.long))

pub overflow_add-numbers_end : goal.overflow_add-numbers_end
overflow_add-numbers_end c =
    let k = (near c.args.first.now c.args.second.now c.args.edges _ c.as_slice-numbers.ensures c.near_group-group.ensures).1 in
    let v = c.loop-cell.invariant in
    omega (arith, v.0, v.1, c.requires.few, c.loop-cell-test.true, length-take c.args.n c.args.keys.now)

pub threes_of-triangles_end-requires : goal.threes_of-triangles_end-requires
threes_of-triangles_end-requires c =
    (near c.args.first.now c.args.second.now c.args.edges _ c.as_slice-numbers.ensures c.near_group-group.ensures).1

pub overflow_add-triangles_end : goal.overflow_add-triangles_end
overflow_add-triangles_end c =
    let v = c.loop-cell.invariant in
    omega (arith, v.0, v.1, c.requires.few, c.loop-cell-test.true, length-take c.args.n c.args.keys.now, c.threes_of-triangles_end.ensures.upper_bound)

pub loop-cell-preserved : goal.loop-cell-preserved
loop-cell-preserved c =
    let k = near c.args.first.now c.args.second.now c.args.edges _ c.as_slice-numbers.ensures c.near_group-group.ensures in
    let v = c.loop-cell.invariant in (
      omega (arith, v.0, k.1),
      omega (arith, v.1, c.threes_of-triangles_end.ensures.upper_bound),
      filling_turn
          (source c.args.keys.now c.args.n c.args.first.now c.args.second.now c.args.edges)
          (take c.args.n c.args.keys.now) _ _ _ _ c.loop-cell.cell-index _ _ _ _ _ _ v.2 c.loop-cell-test.true
          c.as_slice-numbers.result.now k.0 _ _ _ _ _ _ (omega arith) (omega (arith, c.threes_of-triangles_end.ensures.value))
          c.put_numbers.ensures
          c.put_threes.ensures.t0_after
          c.put_threes.ensures.t1_after
          c.put_threes.ensures.t2_after,
    )

pub returns : goal.returns
returns c =
    let d = filling_done _ _ _ _ _ _ _ _ _ _ _ _ _ c.loop-cell.invariant.2 c.loop-cell-test.false in
    record { value = d.0; groups_after = d.1.0; t0_after = d.1.1.0; t1_after = d.1.1.1.0; t2_after = d.1.1.1.1 }
