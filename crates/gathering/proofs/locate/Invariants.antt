-- `gathering::locate` meets its contract: the first i own keys have their seats, and the next one is at the place or past it.
-- Assumes nothing.
use Prim.Native.Nat.{◌<◌, ◌≤◌}
use mathlib.Core.Path.{◌≡◌}
use lib.ListN.{length, get_or, take}
use Rattle.search.specs.Keys.{place_of}
use Rattle.gathering.specs.Gathering.{seats_of}
use Rattle.gathering.proofs.locate.Given as goal

abbrev pub invariant-loop-i : goal.invariant-loop-i
invariant-loop-i l = (l.i ≤ l.own) × (take l.i l.seats ≡ seats_of (take l.count l.keys) (take l.i l.own_keys)) × (length l.seats ≡ length l.initial.seats)
    × (l.i < l.own → l.place ≤ place_of (get_or l.own_keys l.i 0) (take l.count l.keys))
