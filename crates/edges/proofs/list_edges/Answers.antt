-- `edges::list_edges` meets its contract: what is left of the rows says what all of them say.
use Prim.Native.Nat.{◌≤◌}
use native.Mathlib.Omega.{arith}
use lib.ListN.{length, length-take}
use Rattle.table.specs.Table.{rows_of, beside}
use Rattle.table.proofs.RowLaws.{row_at_lem}
use Rattle.neighbors.specs.Neighbors.{neighbours}
use Rattle.edges.specs.Edges.{edges}
use Rattle.edges.proofs.RoundLaws.{begun, done, row_turn, no_row_left}
use borrow.Author.Rules.{rules}
use Rattle.edges.proofs.list_edges.Goals as goal

pub loop-row-init : goal.loop-row-init
loop-row-init c = (search rules, omega arith, begun _ _ _ _)

pub list_row-end-requires : goal.list_row-end-requires
list_row-end-requires c =
    let w = c.loop-row.invariant.2 in
    (c.requires.0, c.loop-row-test.true, c.loop-row.invariant.1, omega (arith, c.requires.1, w.long, w.long'))

pub loop-row-preserved : goal.loop-row-preserved
loop-row-preserved c =
    let a = c.args in
    let below = c.loop-row-test.true in
    let p = c.requires.0 in (
      omega arith,
      omega (arith, c.list_row-end.ensures.upper_bound),
      row_turn neighbours _ _ c.loop-row.row _
          (row_at_lem a.rows.now.keys.now a.rows.now.distances.now a.rows.now.weights.now a.rows.now.count c.loop-row.row p.distances
          p.weights below p.fits)
          _ _ _ _ _ _ _ _ _ _ c.loop-row.invariant.2 c.list_row-end.ensures.wrote,
    )

pub returns : goal.returns
unfolding edges
returns c =
    let a = c.args in
    let rows = rows_of a.rows.now.keys.now a.rows.now.distances.now a.rows.now.weights.now a.rows.now.count in
    let all : length rows ≤ c.loop-row.row = omega (arith, length-take a.rows.now.count (beside a.rows.now.keys.now a.rows.now.distances.now a.rows.now.weights.now)) in
    done _ _ _ _ _ _ _ (rw (no_row_left neighbours _ rows c.loop-row.row all) at c.loop-row.invariant.2)
