-- `hearing::other_spread` meets its contract: what is left to ask says what the whole does.
-- Assumes nothing.
use Prim.Native.Nat.{ℕ}
use mathlib.Core.Path.{◌≡◌}
use mathlib.Core.List.{List}
use lib.ListN.{drop}
use Rattle.neighbors.specs.Neighbors.{neighbours}
use Rattle.marching.specs.March.{MarchedRow}
use Rattle.marching.specs.Spreading.{other_spread}
use Rattle.hearing.specs.Hearing.{Marked, seeds_of, field_of}
use Rattle.hearing.proofs.other_spread.Given as goal

abbrev pub invariant-loop-neighbour : goal.invariant-loop-neighbour
invariant-loop-neighbour l = ((rs : List MarchedRow) (ws : List ℕ)
    → Marked rs ws l.keys l.distances
    → other_spread (seeds_of l.fn.plan)
    (field_of l.fn.plan) l.from rs (neighbours l.key)
    ≡ other_spread (seeds_of l.fn.plan)
    (field_of l.fn.plan) l.from rs (drop l.neighbour-index (neighbours l.key)))
