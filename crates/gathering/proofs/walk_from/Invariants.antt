-- `gathering::walk_from` meets its contract: the walk never passes the key's place.
-- Assumes nothing.
use Prim.Native.Nat.{◌≤◌}
use lib.ListN.{take}
use Rattle.search.specs.Keys.{place_of}
use Rattle.gathering.proofs.walk_from.Given as goal

abbrev pub invariant-loop-place : goal.invariant-loop-place
invariant-loop-place l = l.place ≤ place_of l.key (take l.count l.keys)
