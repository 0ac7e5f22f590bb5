-- `edges::list_edges` meets its contract: what is left of the rows says what all of them say.
-- Assumes nothing.
use Prim.Native.Nat.{◌*◌, ◌≤◌, ◌-◌}
use Rattle.table.specs.Table.{rows_of}
use Rattle.neighbors.specs.Neighbors.{neighbours}
use Rattle.edges.specs.Surfaces.{crosses_on}
use Rattle.edges.proofs.RoundLaws.{Writing, from}
use Rattle.edges.proofs.list_edges.Given as goal

abbrev pub invariant-loop-row : goal.invariant-loop-row
invariant-loop-row l = let rows = rows_of l.fn.rows.keys.now l.fn.rows.distances.now l.fn.rows.weights.now l.fn.rows.count in
    let left = from neighbours (crosses_on l.surface rows) rows in
    (l.row ≤ l.fn.rows.count) × (l.end ≤ 14 * l.row) × Writing (left 0) 0 l.initial.first l.initial.second (left l.row) l.end l.first l.second

abbrev pub decreases-loop-row : goal.decreases-loop-row
decreases-loop-row l = l.fn.rows.count - l.row
