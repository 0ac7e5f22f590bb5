-- `cutting::cut_second` meets its contract: what is left of the cells says what all of them say.
-- Assumes nothing.
use native.Mathlib.Omega.{arith}
use mathlib.Core.Path.{sym, ◌∙◌}
use Rattle.cutting.proofs.GoingLaws.{going_begun, second_turn, second_skip, second_left, going_same, going_done}
use Rattle.cutting.proofs.cut_second.Goals as goal
use Rattle.cutting.proofs.cut_second.Goals.{then-meets-i, else-meets-i}

pub loop-j-init : goal.loop-j-init
loop-j-init c = (omega arith, omega (arith, c.requires.2), omega arith, going_begun _ _ _ _ _)

pub cut_third-end-requires : goal.cut_third-end-requires
cut_third-end-requires c =
    let h = c.loop-j-test.true in
    let w = c.loop-j.invariant.3.putting in (
      c.requires.0,
      c.requires.1,
      c.loop-j.invariant.0,
      h,
      sym (c.requires.1.told c.args.i c.loop-j.j c.requires.2 c.loop-j.invariant.0 h) ∙ c.if-meets-i.true,
      c.requires.3,
      record {
        second = omega (arith, c.requires.4.second, w.ones.long, w.twos.long);
        third = omega (arith, c.requires.4.third, w.ones.long, w.threes.long);
      },
      omega (arith, c.requires.5, c.requires.0.few, c.loop-j.invariant.1, c.loop-j.invariant.2),
    )

pub loop-j-preserved : goal.loop-j-preserved
loop-j-preserved c =
    let a = c.args in
    let h = c.loop-j-test.true in
    let told = c.requires.1.told a.i c.loop-j.j c.requires.2 c.loop-j.invariant.0 h in
    let w = c.loop-j.invariant.3 in
    elim c.if-meets-i.branch [
      | then-meets-i p ↦ (
        omega (arith, c.loop-j.invariant.0),
        omega (arith, h),
        omega (arith, p.end-is, p.cut_third-end.ensures.upper_bound, c.loop-j.invariant.2),
        rw (p.t0-is, p.t1-is, p.t2-is, p.end-is)
            (second_turn _ _ a.cells.now a.inside.now c.requires.0.equal _ _ _ _ _ _ _ _ _ _ _ _ _ a.i _ h w p.cut_third-end.ensures.puts),
      )
      | else-meets-i p ↦ (
        omega (arith, c.loop-j.invariant.0),
        omega (arith, h),
        omega (arith, p.end-is, c.loop-j.invariant.2),
        rw (p.t0-is, p.t1-is, p.t2-is, p.end-is)
            (going_same _ _ _ _ _ _ _ _ _ _ w _
            (second_skip _ _ a.cells.now a.inside.now c.requires.0.equal a.i _ h (sym told ∙ p.if-meets-i.false))),
      )
    ]

pub returns : goal.returns
returns c =
    record {
      puts = going_done _ _ _ _ _ _ _ _ _ _ c.loop-j.invariant.3
          (second_left _ _ c.args.cells.now c.args.inside.now c.requires.0.equal c.args.i _ c.loop-j-test.false);
      upper_bound = omega (arith, c.loop-j.invariant.1, c.loop-j.invariant.2, c.requires.0.few);
    }
