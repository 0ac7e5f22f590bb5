-- `gathering::slide` meets its contract: before each turn what stood from i up stands from the place up, in each column by one law.
-- Assumes nothing.
use Prim.Native.Nat.{◌+◌, ◌≤◌}
use mathlib.Core.Path.{◌≡◌}
use lib.ListN.{length}
use Rattle.gathering.specs.Steps.{slid}
use Rattle.gathering.proofs.slide.Given as goal

abbrev pub invariant-loop-i : goal.invariant-loop-i
invariant-loop-i l = (l.from ≤ l.i)
    × (l.i ≤ l.end)
    × (l.place + l.end ≡ l.to + l.i)
    × (length l.keys ≡ length l.initial.keys)
    × (length l.distances ≡ length l.initial.distances)
    × (length l.weights ≡ length l.initial.weights)
    × (l.keys ≡ slid l.initial.keys l.place l.i l.end l.to)
    × (l.distances ≡ slid l.initial.distances l.place l.i l.end l.to)
    × (l.weights ≡ slid l.initial.weights l.place l.i l.end l.to)

abbrev pub decreases-loop-i : goal.decreases-loop-i
decreases-loop-i l = l.i
