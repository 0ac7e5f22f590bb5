-- `groups::edge_number` meets its contract: the edges from a place on say what all of them say.
-- Assumes nothing.
use Prim.Native.Nat.{◌-◌}
use mathlib.Core.Path.{◌≡◌}
use lib.ListN.{drop}
use Rattle.groups.specs.CellEdges.{edges_in}
use Rattle.groups.specs.Near.{scanned, number_from}
use Rattle.groups.proofs.edge_number.Given as goal

abbrev pub invariant-loop-i : goal.invariant-loop-i
invariant-loop-i l = let es = edges_in l.first l.second l.count in
    number_from l.place l.a l.b es ≡ scanned l.i l.a l.b (drop l.i es)

abbrev pub decreases-loop-i : goal.decreases-loop-i
decreases-loop-i l = l.count - l.i
