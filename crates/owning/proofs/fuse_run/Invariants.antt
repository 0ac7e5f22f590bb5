-- `owning::fuse_run` meets its contract: what is left of the readings ends as the whole does.
-- Assumes nothing.
use mathlib.Core.Path.{◌≡◌}
use Prim.Native.Nat.{◌≤◌}
use lib.ListN.{length}
use Rattle.batching.specs.Read.{entries_in}
use Rattle.owning.proofs.Running.{Running, FarRunning}
use Rattle.owning.proofs.fuse_run.Given as goal

abbrev pub invariant-loop-i : goal.invariant-loop-i
invariant-loop-i l = (l.from ≤ l.i)
    × (l.i ≤ l.to)
    × (l.added ≤ l.i)
    × (length l.own_distances ≡ length l.initial.own_distances)
    × (length l.own_weights ≡ length l.initial.own_weights)
    × Running l.settings l.own_keys l.initial.own_distances l.initial.own_weights l.own l.room
    (entries_in l.readings) l.from l.i l.added l.own_distances l.own_weights
    × (l.far ≤ l.i)
    × FarRunning l.settings (entries_in l.readings) l.from l.i l.far
