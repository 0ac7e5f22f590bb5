-- `cutting::mark_meets` meets its contract: those that were passed are told.
-- Assumes nothing.
use Prim.Native.Nat.{◌+◌, ◌*◌}
use native.Mathlib.Omega.{arith}
use mathlib.Core.Path.{refl, ◌∙◌}
use lib.ListN.{length-set}
use Rattle.cutting.proofs.MeetLaws.{none_telling, one_telling, all_telling}
use Rattle.cutting.proofs.mark_meets.Goals as goal

pub loop-l-init : goal.loop-l-init
loop-l-init c = (omega arith, omega (arith, c.requires.0), refl, none_telling c.args.cells.now c.requires.1 c.args.i c.args.meets.now c.requires.3)

pub loop-l-preserved : goal.loop-l-preserved
loop-l-preserved c =
    let v = c.loop-l.invariant in
    let h = c.loop-l-test.true in (
      omega arith,
      omega (arith, h),
      length-set c.loop-l.meets (14 * c.args.i + c.loop-l.l) _ ∙ v.2,
      one_telling c.args.cells.now c.requires.1 c.args.i c.loop-l.meets c.loop-l.l v.3 h
          (omega (arith, c.requires.0, c.requires.1, c.requires.2, h, v.2)) _ c.are_adjacent.ensures,
    )

pub returns : goal.returns
returns c = all_telling c.args.cells.now c.requires.1 c.args.i c.loop-l.meets c.loop-l.l c.loop-l.invariant.3 c.loop-l-test.false
