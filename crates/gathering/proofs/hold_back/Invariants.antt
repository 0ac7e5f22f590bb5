-- `gathering::hold_back` meets its contract: the first i own rows that do not stand wait.
-- Assumes nothing.
use Prim.Native.Nat.{◌≤◌}
use mathlib.Core.Path.{◌≡◌}
use lib.ListN.{length, take}
use Rattle.gathering.specs.Gathering.{held_back}
use Rattle.gathering.proofs.hold_back.Given as goal

abbrev pub invariant-loop-i : goal.invariant-loop-i
invariant-loop-i l = (l.i ≤ l.own) × (l.seats ≡ held_back l.most (take l.i l.own_weights) l.initial.seats) × (length l.seats ≡ length l.initial.seats)
