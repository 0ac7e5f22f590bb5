-- `neighbors::around` meets its contract. The loop has found the neighbours by the offsets passed.
-- Assumes nothing.
use Prim.Native.Nat.{◌≤◌}
use mathlib.Core.Path.{◌≡◌}
use lib.ListN.{length}
use Rattle.lists.specs.Padding.{padded}
use Rattle.neighbors.proofs.NeighborLaws.{first}
use Rattle.neighbors.proofs.around.Given as goal

abbrev pub invariant-loop-low : goal.invariant-loop-low
invariant-loop-low l =
    (l.low-index ≤ 14) × (l.keys ≡ padded 0 14 (first l.key l.low-index)) × (l.count ≡ length (first l.key l.low-index)) × (l.count ≤ l.low-index)
