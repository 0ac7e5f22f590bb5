-- `marks::leave` meets its contract: the table is in order but for one place, and the way around ends.
-- Assumes nothing.
use Rattle.std.specs.Prelude.{Ok}
use Prim.Native.Nat.{ℕ, ◌+◌, ◌-◌, ◌<◌}
use mathlib.Core.Path.{◌≡◌}
use lib.ListN.{length}
use Rattle.marks.specs.Marks.{label, along, spot_of, MayLeave}
use Rattle.marks.proofs.Circling.{Around}
use Rattle.marks.proofs.Leaving.{Leaving}
use Rattle.marks.proofs.leave.Given as goal

abbrev pub invariant-loop-keys : goal.invariant-loop-keys
invariant-loop-keys l = Around l.place l.initial.keys l.i l.keys l.values
    × ((l.hole < length l.keys)
    × ((k : ℕ)
    → spot_of k l.initial.keys ≡ Ok l.place
    → MayLeave l.initial.keys l.initial.values
    → Leaving (label k) l.place l.initial.keys l.initial.values l.hole l.i l.keys l.values))

abbrev pub decreases-loop-keys : goal.decreases-loop-keys
decreases-loop-keys l = l.place + length l.initial.keys - along l.place (length l.initial.keys) l.i
