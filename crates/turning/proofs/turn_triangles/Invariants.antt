-- `turning::turn_triangles` meets its contract: as many triangles as were passed are turned.
-- Assumes nothing.
use Prim.Native.Nat.{◌-◌, ◌≤◌}
use mathlib.Core.Path.{◌≡◌}
use Rattle.lists.specs.Threes.{column1, column2}
use Rattle.table.specs.Table.{rows_of}
use Rattle.winding.specs.Winding.{turned_triangles}
use Rattle.turning.proofs.TurnLaws.{written}
use Rattle.turning.proofs.turn_triangles.Given as goal

abbrev pub invariant-loop-i : goal.invariant-loop-i
invariant-loop-i l = let turned = turned_triangles (rows_of l.fn.rows.keys.now l.fn.rows.distances.now l.fn.rows.weights.now l.fn.rows.count) in
    (l.i ≤ l.triangles) × ((l.t1 ≡ written (column1 turned) l.i l.initial.t1) × (l.t2 ≡ written (column2 turned) l.i l.initial.t2))

abbrev pub decreases-loop-i : goal.decreases-loop-i
decreases-loop-i l = l.triangles - l.i
