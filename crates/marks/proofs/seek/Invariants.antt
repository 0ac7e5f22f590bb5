-- `marks::seek` meets its contract: the search from the place that is reached finds what the whole finds.
-- Assumes nothing.
use Prim.Native.Nat.{◌-◌}
use mathlib.Core.Path.{◌≡◌}
use Rattle.marks.specs.Marks.{seek}
use Rattle.marks.proofs.seek.Given as goal

abbrev pub invariant-loop-i : goal.invariant-loop-i
invariant-loop-i l = seek l.key l.keys l.from (l.to - l.from) ≡ seek l.key l.keys l.i (l.to - l.i)
