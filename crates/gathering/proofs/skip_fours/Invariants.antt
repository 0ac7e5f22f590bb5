-- `gathering::skip_fours` meets its contract: the walk never passes the key's place.
-- Assumes nothing.
use Prim.Native.Nat.{◌≤◌, ◌-◌}
use lib.ListN.{take}
use Rattle.search.specs.Keys.{place_of}
use Rattle.gathering.proofs.skip_fours.Given as goal

abbrev pub invariant-loop-place : goal.invariant-loop-place
invariant-loop-place l = (l.place ≤ l.count) × (l.place ≤ place_of l.key (take l.count l.keys))

abbrev pub decreases-loop-place : goal.decreases-loop-place
decreases-loop-place l = l.count - l.place
