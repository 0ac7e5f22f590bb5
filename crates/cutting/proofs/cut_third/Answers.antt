-- `cutting::cut_third` meets its contract: what is left of the cells says what all of them say.
-- Assumes nothing.
use native.Mathlib.Omega.{arith}
use Rattle.cutting.proofs.GoingLaws.{going_begun, third_turn, third_left, going_done}
use Rattle.cutting.proofs.cut_third.Goals as goal

pub loop-l-init : goal.loop-l-init
loop-l-init c = (omega arith, omega (arith, c.requires.3), omega arith, going_begun _ _ _ _ _)

pub patch_at-patch-requires : goal.patch_at-patch-requires
patch_at-patch-requires c = (c.requires.0, c.requires.1, c.requires.2, c.loop-l.invariant.0, c.loop-l-test.true, c.requires.4, c.requires.5)

pub put_patch-end-requires : goal.put_patch-end-requires
put_patch-end-requires c =
    let w = c.loop-l.invariant.3.putting in (
      record {
        second = omega (arith, c.requires.6.second, w.ones.long, w.twos.long);
        third = omega (arith, c.requires.6.third, w.ones.long, w.threes.long);
      },
      omega (arith, c.requires.7, c.requires.0.few, c.loop-l.invariant.1, c.loop-l.invariant.2),
    )

pub loop-l-preserved : goal.loop-l-preserved
loop-l-preserved c =
    let h = c.loop-l-test.true in (
      omega (arith, c.loop-l.invariant.0),
      omega (arith, h),
      omega (arith, c.loop-l.invariant.2, c.put_patch-end.ensures.upper_bound),
      third_turn _ _ c.args.cells.now c.args.inside.now c.requires.0.equal _ _ _ _ _ _ _ _ _ _ _ _ _ c.args.i c.args.j _ h
          c.loop-l.invariant.3 _ c.patch_at-patch.ensures c.put_patch-end.ensures.puts,
    )

pub returns : goal.returns
returns c =
    record {
      puts = going_done _ _ _ _ _ _ _ _ _ _ c.loop-l.invariant.3
          (third_left _ _ c.args.cells.now c.args.inside.now c.requires.0.equal c.args.i c.args.j _ c.loop-l-test.false);
      upper_bound = omega (arith, c.loop-l.invariant.1, c.loop-l.invariant.2, c.requires.0.few);
    }
