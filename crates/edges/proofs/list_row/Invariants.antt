-- `edges::list_row` meets its contract: what is left of the neighbours says what all of them say.
-- Assumes nothing.
use Prim.Native.Nat.{ℕ, ◌+◌, ◌≤◌}
use mathlib.Core.List.{List}
use lib.ListN.{get_or, drop}
use lib.Ieee.{Float}
use Rattle.table.specs.Table.{rows_of}
use Rattle.neighbors.specs.Neighbors.{neighbours}
use Rattle.edges.specs.Edges.{Edge, edges_to}
use Rattle.edges.specs.Surfaces.{crosses_on}
use Rattle.edges.specs.declared.Surface.{Surface}
use Rattle.edges.specs.Steps.{row_at}
use Rattle.edges.proofs.RoundLaws.{Writing}
use Rattle.edges.proofs.list_row.Given as goal

-- the edges of the row to its neighbours from a place on
abbrev pub left : Surface → List ℕ → List Float → List Float → ℕ → ℕ → ℕ → List Edge
left o ks ds ws n row i =
    let rows = rows_of ks ds ws n in
    edges_to neighbours (crosses_on o rows) rows (row_at ks ds ws row) (drop i (neighbours (get_or ks row 0)))

abbrev pub invariant-loop-cell : goal.invariant-loop-cell
invariant-loop-cell l = (l.end ≤ l.at + l.cell-index)
    × Writing (left l.surface l.fn.rows.keys.now l.fn.rows.distances.now l.fn.rows.weights.now l.fn.rows.count l.row 0) l.at l.initial.first l.initial.second
    (left l.surface l.fn.rows.keys.now l.fn.rows.distances.now l.fn.rows.weights.now l.fn.rows.count l.row l.cell-index) l.end l.first l.second
