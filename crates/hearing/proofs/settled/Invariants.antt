-- `hearing::settled` meets its contract: what is left to hear says what the whole does.
-- Assumes nothing.
use Prim.Native.Nat.{ℕ}
use mathlib.Core.Path.{◌≡◌}
use mathlib.Core.List.{List}
use lib.ListN.{drop}
use Rattle.neighbors.specs.Neighbors.{neighbours}
use Rattle.floats.specs.Floats.{largest}
use Rattle.marching.specs.March.{MarchedRow, settling}
use Rattle.marching.specs.Lattice.{lattice_of}
use Rattle.hearing.specs.Hearing.{Marked}
use Rattle.hearing.proofs.settled.Given as goal

abbrev pub invariant-loop-place : goal.invariant-loop-place
invariant-loop-place l = ((rs : List MarchedRow) (ws : List ℕ)
    → Marked rs ws l.keys l.distances
    → settling (lattice_of l.course) rs l.key 0 largest (neighbours l.key)
    ≡ settling (lattice_of l.course) rs l.key l.place l.best (drop l.place (neighbours l.key)))
