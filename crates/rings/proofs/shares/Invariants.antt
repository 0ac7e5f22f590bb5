-- `rings::shares` meets its contract: what is left of the cells says what all of them say.
-- Assumes nothing.
use mathlib.Core.Path.{◌≡◌}
use lib.ListN.{drop}
use Rattle.rings.specs.Rings.{any, weighted_by, beside_both}
use Rattle.rings.proofs.shares.Given as goal

abbrev pub invariant-loop-fourth : goal.invariant-loop-fourth
invariant-loop-fourth l =
    let f = beside_both (weighted_by l.keys l.weights l.count l.near) l.other l.third in any f l.cells ≡ any f (drop l.fourth-index l.cells)
