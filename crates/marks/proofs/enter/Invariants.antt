-- `marks::enter` meets its contract: the label in hand has passed only larger ones, and the way around ends.
-- Assumes nothing.
use Prim.Native.Nat.{◌+◌, ◌-◌}
use lib.ListN.{length}
use Rattle.marks.specs.Marks.{label, along, MayEnter}
use Rattle.marks.proofs.Circling.{Around}
use Rattle.marks.proofs.Entering.{Carrying}
use Rattle.marks.proofs.enter.Given as goal

abbrev pub invariant-loop-keys : goal.invariant-loop-keys
invariant-loop-keys l = Around l.place l.initial.keys l.i l.keys l.values
    × (MayEnter l.key l.place l.initial.keys l.initial.values
    → Carrying (label l.key) l.value l.place l.initial.keys l.initial.values l.k l.v l.i l.keys l.values)

abbrev pub decreases-loop-keys : goal.decreases-loop-keys
decreases-loop-keys l = l.place + length l.initial.keys - along l.place (length l.initial.keys) l.i
