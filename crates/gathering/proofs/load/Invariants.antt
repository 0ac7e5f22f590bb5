-- `gathering::load` meets its contract: the first i own values are those at their seats.
-- Assumes nothing.
use Prim.Native.Nat.{◌≤◌}
use mathlib.Core.Path.{◌≡◌}
use lib.ListN.{length, take}
use Rattle.gathering.specs.Gathering.{loaded}
use Rattle.gathering.proofs.load.Given as goal

abbrev pub invariant-loop-i : goal.invariant-loop-i
invariant-loop-i g l = (l.i ≤ l.own) × (take l.i l.own_column ≡ loaded l.column l.absent (take l.i l.seats)) × (length l.own_column ≡ length l.initial.own_column)
