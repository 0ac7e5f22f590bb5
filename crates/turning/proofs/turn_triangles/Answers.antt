-- `turning::turn_triangles` meets its contract: as many triangles as were passed are turned.
-- Assumes nothing.
use native.Mathlib.Omega.{arith}
use mathlib.Core.Path.{refl, ◌∙◌}
use Rattle.turning.proofs.TurnLaws.{a_first, near_below, side_there, a_below, done1, done2, at_hand, next1, next2}
use borrow.Author.Rules.{rules}
use Rattle.turning.proofs.turn_triangles.Goals as goal

pub loop-i-init : goal.loop-i-init
loop-i-init c = (omega arith, (refl, refl))

pub offset_bounds-first-a : goal.offset_bounds-first-a
offset_bounds-first-a c =
    let h = a_first _ _ _ _ _ _ _ _ _ _ _ c.requires _ c.loop-i-test.true in
    search rules

pub bounds-first-a : goal.bounds-first-a
bounds-first-a c =
    let h = a_first _ _ _ _ _ _ _ _ _ _ _ c.requires _ c.loop-i-test.true in
    search rules

pub offset_bounds-distances-near : goal.offset_bounds-distances-near
offset_bounds-distances-near c =
    let below = a_below _ _ _ _ _ _ _ _ _ _ _ c.requires _ c.loop-i-test.true in
    let h = near_below _ _ _ _ _ _ _ _ _ _ _ c.requires _ below _ _ c.place_near-near.ensures in
    let a = c.requires.accepted in
    search rules

pub bounds-distances-near : goal.bounds-distances-near
bounds-distances-near c =
    let below = a_below _ _ _ _ _ _ _ _ _ _ _ c.requires _ c.loop-i-test.true in
    let h = near_below _ _ _ _ _ _ _ _ _ _ _ c.requires _ below _ _ c.place_near-near.ensures in
    let a = c.requires.accepted in
    search rules

pub turn_at-requires : goal.turn_at-requires
turn_at-requires c = at_hand _ _ _ _ _ _ _ _ _ _ _ c.requires _ c.loop-i-test.true _ _ c.loop-i.invariant.1.0 c.loop-i.invariant.1.1

pub loop-i-preserved : goal.loop-i-preserved
loop-i-preserved c =
    let h = c.loop-i-test.true in
    let below = a_below _ _ _ _ _ _ _ _ _ _ _ c.requires _ h in
    let side = side_there _ _ _ _ _ _ _ _ _ _ _ c.requires _ below _ _ c.place_near-near.ensures in
    let e1 = c.loop-i.invariant.1.0 in
    let e2 = c.loop-i.invariant.1.1 in (
      omega (arith, h),
      (
        c.turn_at.ensures.t1_after ∙ next1 _ _ _ _ _ _ _ _ _ _ _ c.requires _ h _ _ e1 e2 _ side,
        c.turn_at.ensures.t2_after ∙ next2 _ _ _ _ _ _ _ _ _ _ _ c.requires _ h _ _ e1 e2 _ side,
      ),
    )

pub returns : goal.returns
returns c =
    record {
      t1_after = done1 _ _ _ _ _ _ _ _ _ _ _ c.requires _ c.loop-i-test.false c.loop-i.invariant.0 _ c.loop-i.invariant.1.0;
      t2_after = done2 _ _ _ _ _ _ _ _ _ _ _ c.requires _ c.loop-i-test.false c.loop-i.invariant.0 _ c.loop-i.invariant.1.1;
    }
