-- `edges::list_row` meets its contract: what is left of the neighbours says what all of them say.
use Prim.Native.Nat.{◌≤◌, ◌<◌}
use mathlib.Core.Path.{◌≡◌, ap, ◌∙◌}
use native.Mathlib.Omega.{arith}
use lib.ListN.{length, get_or}
use Rattle.table.specs.Table.{rows_of}
use Rattle.neighbors.specs.Neighbors.{neighbours}
use Rattle.neighbors.proofs.NeighborLaws.{at_most_14, cells_known}
use Rattle.edges.specs.Edges.{listed}
use Rattle.edges.specs.Surfaces.{crosses_on}
use Rattle.edges.specs.Steps.{row_at}
use Rattle.edges.proofs.RoundLaws.{begun, done, turn_listed, turn_unlisted, none_left}
use Rattle.edges.proofs.list_row.Goals.{then-is_listed, else-is_listed}
use Rattle.edges.proofs.list_row.Goals as goal

pub loop-cell-init : goal.loop-cell-init
loop-cell-init c = (omega arith, begun _ _ _ _)

pub overflow_add-end : goal.overflow_add-end
overflow_add-end c =
    let few = at_most_14 (get_or c.args.rows.now.keys.now c.args.row 0) in
    let within : c.loop-cell.cell-index < length (neighbours (get_or c.args.rows.now.keys.now c.args.row 0)) =
    rw (← cells_known _ c.around-near.ensures c.cells-cell-items.ensures) c.loop-cell-test.true in
    omega (arith, c.requires.2, c.requires.0.few)

pub loop-cell-preserved : goal.loop-cell-preserved
loop-cell-preserved c =
    let a = c.args in
    let i = c.loop-cell.cell-index in
    let k = get_or a.rows.now.keys.now a.row 0 in
    let cells : c.cells-cell-items.result.now ≡ neighbours k = cells_known _ c.around-near.ensures c.cells-cell-items.ensures in
    let rows = rows_of a.rows.now.keys.now a.rows.now.distances.now a.rows.now.weights.now a.rows.now.count in
    let w = c.loop-cell.invariant.1 in
    let h : i < length (neighbours k) = rw (← cells) c.loop-cell-test.true in
    let cell : get_or c.cells-cell-items.result.now i 0 ≡ get_or (neighbours k) i 0 = rw cells in
    let e : c.is_listed.result ≡ listed neighbours (crosses_on a.surface rows) rows
    (row_at a.rows.now.keys.now a.rows.now.distances.now a.rows.now.weights.now a.row) (get_or (neighbours k) i 0) =
    c.is_listed.ensures ∙ ap (listed neighbours _ _ _) cell in
    elim c.if-is_listed.branch [
      | then-is_listed p ↦ (
        omega (arith, p.end-is),
        turn_listed _ _ _ _ _ _ h _ _ _ _ _ _ _ _ _ _ w _ e p.if-is_listed.true _ cell (p.first-is ∙ p.put.ensures)
            (p.second-is ∙ p.put-then-is_listed.ensures) p.end-is,
      )
      | else-is_listed p ↦ (
        omega (arith, p.end-is),
        turn_unlisted _ _ _ _ _ _ h _ _ _ _ _ _ _ _ _ _ w _ e p.if-is_listed.false p.first-is p.second-is p.end-is,
      )
    ]

pub returns : goal.returns
returns c =
    let k = get_or c.args.rows.now.keys.now c.args.row 0 in
    let cells : c.cells-cell-items.result.now ≡ neighbours k = cells_known _ c.around-near.ensures c.cells-cell-items.ensures in
    let w = c.loop-cell.invariant.1 in
    let all : length (neighbours k) ≤ c.loop-cell.cell-index = rw (← cells) c.loop-cell-test.false in
    record {
      wrote = done _ _ _ _ _ _ _ (rw (none_left neighbours _ _ _ (neighbours k) c.loop-cell.cell-index all) at w);
      upper_bound = let few = at_most_14 k in let end : c.loop-cell.cell-index ≤ length (neighbours k) = rw (← cells) c.loop-cell.auto.cell-index-end in omega arith;
    }
