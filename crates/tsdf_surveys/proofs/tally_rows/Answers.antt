-- `tsdf_surveys::tally_rows` meets its contract: what is left of the rows, tallied onto what was, says what all say.
use mathlib.Core.Path.{sym, ap, ◌∙◌}
use Prim.Native.Nat.{◌+◌}
use native.Mathlib.Omega.{arith}
use lib.Ieee.{nan, of_bits, neg}
use lib.ListN.{get_or}
use Rattle.tsdf_surveys.specs.declared.Tally.{Tally}
use Rattle.tsdf_surveys.specs.Statistics.{tallied_all}
use Rattle.tsdf_surveys.proofs.RowByRow.{rest, row_tallied, rows_tallied, tallied_near}
use borrow.Author.Rules.{rules}
use Rattle.tsdf_surveys.proofs.tally_rows.Goals as goal

pub loop-i-init : goal.loop-i-init
unfolding of_bits neg
loop-i-init c = (search rules, search rules, rw c.none.ensures)

pub loop-i-preserved : goal.loop-i-preserved
loop-i-preserved c =
    let a = c.args in
    let w = c.add_row-sum.ensures in (
      omega arith,
      omega (
        arith,
        tallied_near a.near c.loop-i.sum (get_or a.rows.now.distances.now c.loop-i.i nan)
            (get_or a.rows.now.weights.now c.loop-i.i nan),
        ap (λ (t : Tally). t.near) w,
        c.loop-i.invariant.1,
      ),
      c.loop-i.invariant.2
          ∙ row_tallied a.rows.now.keys.now a.rows.now.distances.now a.rows.now.weights.now a.rows.now.count c.requires c.loop-i.i
          c.loop-i-test.true a.near c.loop-i.sum
          ∙ ap (λ (t : Tally).
          tallied_all a.near t
          (rest a.rows.now.keys.now a.rows.now.distances.now a.rows.now.weights.now a.rows.now.count (c.loop-i.i + 1))) (sym w),
    )

pub returns : goal.returns
returns c =
    let a = c.args in
    sym (c.loop-i.invariant.2
    ∙ rows_tallied a.rows.now.keys.now a.rows.now.distances.now a.rows.now.weights.now a.rows.now.count c.loop-i.i c.loop-i-test.false
    a.near c.loop-i.sum)
