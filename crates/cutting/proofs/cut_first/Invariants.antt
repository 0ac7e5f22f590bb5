-- `cutting::cut_first` meets its contract: what is left of the cells says what all of them say.
-- Assumes nothing.
use Prim.Native.Nat.{◌+◌, ◌*◌, ◌-◌, ◌≤◌}
use lib.ListN.{length}
use Rattle.groups.specs.CellEdges.{edges_in}
use Rattle.cutting.specs.Corners.{sided}
use Rattle.cutting.proofs.GoingLaws.{Going, first_from}
use Rattle.cutting.proofs.cut_first.Given as goal

abbrev pub invariant-loop-i : goal.invariant-loop-i
invariant-loop-i l = let left = first_from (edges_in l.first l.second l.edges) (sided l.own l.side) l.cells l.inside in
    (l.i ≤ length l.cells) × (l.end ≤ l.at + 392 * l.i) × Going (left 0) l.at l.initial.t0 l.initial.t1 l.initial.t2 (left l.i) l.end l.t0 l.t1 l.t2

abbrev pub decreases-loop-i : goal.decreases-loop-i
decreases-loop-i l = length l.cells - l.i
