-- `cutting::cut_rows` meets its contract: what is left of the rows says what all of them say.
-- Assumes nothing.
use native.Mathlib.Omega.{arith}
use mathlib.Core.Path.{◌∙◌}
use Rattle.search.proofs.NearbyLaws.{near_place}
use Rattle.cutting.proofs.GoingLaws.{going_begun, going_done}
use Rattle.cuts.proofs.VertexLaws.{in_order}
use Rattle.cutting.proofs.OwnLaws.{numbered, all_rows, rows_left, row_turn}
use Rattle.cutting.proofs.cut_rows.Goals as goal

pub loop-row-init : goal.loop-row-init
loop-row-init c = (omega arith, omega arith, going_begun _ _ _ _ _)

pub cut_next-end-requires : goal.cut_next-end-requires
cut_next-end-requires c =
    let w = c.loop-row.invariant.2.putting in (
      c.requires.0,
      c.loop-row-test.true,
      c.place_near-near.ensures ∙ near_place _ _ _ (in_order _ _ _ (numbered _ _ _ _ _ _ _ c.requires.0)),
      record {
        second = omega (arith, c.requires.1.second, w.ones.long, w.twos.long);
        third = omega (arith, c.requires.1.third, w.ones.long, w.threes.long);
      },
      omega (arith, c.requires.0.accepted.few, c.requires.0.accepted.fits, c.loop-row.invariant.0, c.loop-row.invariant.1),
    )

pub loop-row-preserved : goal.loop-row-preserved
loop-row-preserved c =
    let h = c.loop-row-test.true in (
      omega (arith, h),
      omega (arith, c.loop-row.invariant.1, c.cut_next-end.ensures.upper_bound),
      row_turn _ _ _ _ _ _ _ c.requires.0 _ _ _ _ _ _ _ _ _ _ _ _ _ h c.loop-row.invariant.2 c.cut_next-end.ensures.puts,
    )

pub returns : goal.returns
returns c =
    rw (← all_rows _ _ _ _ _ _ _ c.requires.0)
    (going_done _ _ _ _ _ _ _ _ _ _ c.loop-row.invariant.2 (rows_left _ _ _ _ _ _ _ c.requires.0 _ c.loop-row-test.false))
