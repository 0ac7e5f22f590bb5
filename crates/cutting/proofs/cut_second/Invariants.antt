-- `cutting::cut_second` meets its contract: what is left of the cells says what all of them say.
-- Assumes nothing.
use Prim.Native.Nat.{◌+◌, ◌*◌, ◌-◌, ◌<◌, ◌≤◌}
use lib.ListN.{length}
use Rattle.groups.specs.CellEdges.{edges_in}
use Rattle.cutting.specs.Corners.{sided}
use Rattle.cutting.proofs.GoingLaws.{Going, second_from}
use Rattle.cutting.proofs.cut_second.Given as goal

abbrev pub invariant-loop-j : goal.invariant-loop-j
invariant-loop-j l = let left = second_from (edges_in l.first l.second l.edges) (sided l.own l.side) l.cells l.inside l.i in
    (l.i < l.j) × (l.j ≤ length l.cells) × (l.end ≤ l.at + 28 * l.j)
    × Going (left (l.i + 1)) l.at l.initial.t0 l.initial.t1 l.initial.t2 (left l.j) l.end l.t0 l.t1 l.t2

abbrev pub decreases-loop-j : goal.decreases-loop-j
decreases-loop-j l = length l.cells - l.j
