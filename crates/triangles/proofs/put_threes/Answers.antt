-- `triangles::put_threes` meets its contract: what is left in each of the three loops says what was left where the loop began.
use native.Mathlib.Omega.{arith}
use Rattle.lists.proofs.Putting.{begun}
use Rattle.triangles.proofs.PuttingLaws.{turn_inner, turn_middle, turn_outer, all_put, full}
use borrow.Author.Rules.{rules}
use Rattle.triangles.proofs.put_threes.Goals as goal

pub cell-init : goal.cell-init
cell-init c = (search rules, begun _ _ _ _ _)

pub loop-j-init : goal.loop-j-init
loop-j-init c = (omega (arith, c.cell-test.true), begun _ _ _ _ _)

pub loop-k-init : goal.loop-k-init
loop-k-init c = (omega (arith, c.loop-j-test.true), begun _ _ _ _ _)

pub offset_bounds-t1-end : goal.offset_bounds-t1-end
offset_bounds-t1-end c =
    let w = c.loop-k.invariant.1 in
    let v = c.loop-j.invariant.1 in
    let u = c.cell.invariant.1 in
    omega (arith, w.ones.long, w.twos.long, v.ones.long, v.twos.long, u.ones.long, u.twos.long, c.requires.0)

pub bounds-t1-end : goal.bounds-t1-end
bounds-t1-end c =
    let w = c.loop-k.invariant.1 in
    let v = c.loop-j.invariant.1 in
    let u = c.cell.invariant.1 in
    omega (arith, w.ones.long, w.twos.long, v.ones.long, v.twos.long, u.ones.long, u.twos.long, c.requires.0)

pub offset_bounds-t2-end : goal.offset_bounds-t2-end
offset_bounds-t2-end c =
    let w = c.loop-k.invariant.1 in
    let v = c.loop-j.invariant.1 in
    let u = c.cell.invariant.1 in
    omega (arith, w.ones.long, w.threes.long, v.ones.long, v.threes.long, u.ones.long, u.threes.long, c.requires.1)

pub bounds-t2-end : goal.bounds-t2-end
bounds-t2-end c =
    let w = c.loop-k.invariant.1 in
    let v = c.loop-j.invariant.1 in
    let u = c.cell.invariant.1 in
    omega (arith, w.ones.long, w.threes.long, v.ones.long, v.threes.long, u.ones.long, u.threes.long, c.requires.1)

pub loop-k-preserved : goal.loop-k-preserved
loop-k-preserved c =
    let g = c.args.group.now in (
      omega (arith, c.loop-k-test.true),
      turn_inner g _ _ _ _ _ c.cell.i _ _ _ _ c.loop-j.j
          c.loop-k.k c.loop-k-test.true c.loop-k.invariant.1,
    )

pub loop-j-preserved : goal.loop-j-preserved
loop-j-preserved c =
    let t = c.loop-j-test.true in (
      omega arith,
      turn_middle c.args.group.now _ _ _ _ _ c.cell.i _ _ _ _ _ _ _ _ c.loop-j.j t c.loop-j.invariant.1
          c.loop-k.k c.loop-k-test.false c.loop-k.invariant.1,
    )

pub cell-preserved : goal.cell-preserved
cell-preserved c =
    let t = c.cell-test.true in (
      omega arith,
      turn_outer c.args.group.now _ _ _ _ _ c.cell.i _ _ _ _ _ _ _ _ t c.cell.invariant.1 c.loop-j.j c.loop-j-test.false c.loop-j.invariant.1,
    )

pub returns-after-cell : goal.returns-after-cell
returns-after-cell c =
    let p = all_put _ _ _ _ _ _ _ _ _ _ c.cell.invariant.1 c.cell-test.false in
    record { t0_after = p.0; t1_after = p.1.0; t2_after = p.1.1 }

-- left from the innermost loop
pub returns-then-t0-end : goal.returns-then-t0-end
returns-then-t0-end c =
    let r = c.requires in
    let all =
    full c.args.group.now _ _ _ _ c.cell.i _ _ _ _ c.cell.invariant.1 c.cell-test.true
    r.0 r.1 c.loop-j.j _ _ _ _ c.loop-j.invariant.1 c.loop-j-test.true c.loop-k.k _ _ _ _
    c.loop-k.invariant.1 c.if-t0-end.true in
    let p = all.1 in
    record { t0_after = p.0; t1_after = p.1.0; t2_after = p.1.1 }
