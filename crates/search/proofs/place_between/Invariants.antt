-- `search::place_between` meets its contract: what is left of the search ends where the whole does.
-- Assumes nothing.
use Prim.Native.Nat.{◌≤◌, ◌-◌}
use mathlib.Core.Path.{◌≡◌}
use lib.ListN.{length}
use Rattle.search.specs.Keys.{halving}
use Rattle.search.proofs.place_between.Given as goal

abbrev pub invariant-loop-low : goal.invariant-loop-low
invariant-loop-low l = (l.high ≤ length l.keys) × (halving (length l.keys) l.key l.keys l.initial.low l.initial.high ≡ halving (length l.keys) l.key l.keys l.low l.high)

abbrev pub decreases-loop-low : goal.decreases-loop-low
decreases-loop-low l = l.high - l.low
