-- `cutting::cut_first` meets its contract: what is left of the cells says what all of them say.
-- Assumes nothing.
use native.Mathlib.Omega.{arith}
use Rattle.cutting.proofs.GoingLaws.{going_begun, first_turn, first_left, going_done}
use Rattle.cutting.proofs.cut_first.Goals as goal

pub meets_of-meets-requires : goal.meets_of-meets-requires
meets_of-meets-requires c = c.requires.0.few

pub loop-i-init : goal.loop-i-init
loop-i-init c = (omega arith, omega arith, going_begun _ _ _ _ _)

pub cut_second-end-requires : goal.cut_second-end-requires
cut_second-end-requires c =
    let w = c.loop-i.invariant.2.putting in (
      c.requires.0,
      c.meets_of-meets.ensures,
      c.loop-i-test.true,
      c.requires.1,
      record {
        second = omega (arith, c.requires.2.second, w.ones.long, w.twos.long);
        third = omega (arith, c.requires.2.third, w.ones.long, w.threes.long);
      },
      omega (arith, c.requires.3, c.requires.0.few, c.loop-i.invariant.0, c.loop-i.invariant.1),
    )

pub loop-i-preserved : goal.loop-i-preserved
loop-i-preserved c =
    let a = c.args in
    let h = c.loop-i-test.true in (
      omega (arith, h),
      omega (arith, c.loop-i.invariant.1, c.cut_second-end.ensures.upper_bound),
      first_turn _ _ a.cells.now a.inside.now c.requires.0.equal _ _ _ _ _ _ _ _ _ _ _ _ _ _ h c.loop-i.invariant.2 c.cut_second-end.ensures.puts,
    )

pub returns : goal.returns
returns c =
    record {
      puts = going_done _ _ _ _ _ _ _ _ _ _ c.loop-i.invariant.2 (first_left _ _ c.args.cells.now c.args.inside.now c.requires.0.equal _ c.loop-i-test.false);
      upper_bound = omega (arith, c.loop-i.invariant.0, c.loop-i.invariant.1, c.requires.0.few);
    }
