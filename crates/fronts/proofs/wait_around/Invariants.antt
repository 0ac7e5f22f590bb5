-- `fronts::wait_around` meets its contract: what is left to do says what the whole does.
-- Assumes nothing.
use Rattle.hearing.specs.Hearing.{seeds_of, field_of}
use mathlib.Core.Path.{◌≡◌}
use lib.ListN.{length}
use Rattle.neighbors.specs.Neighbors.{neighbours}
use Rattle.fronts.proofs.Walking.{Rest}
use Rattle.fronts.proofs.wait_around.Given as goal

abbrev pub invariant-loop-neighbour : goal.invariant-loop-neighbour
invariant-loop-neighbour l = (length l.keys ≡ length l.initial.keys)
    × (length l.distances ≡ length l.initial.distances)
    × (length l.estimates ≡ length l.initial.estimates)
    × (length l.cells ≡ length l.initial.cells)
    × Rest l.lean (seeds_of l.fn.plan)
    (field_of l.fn.plan) l.key l.estimate (neighbours l.key)
    l.initial.keys l.initial.distances l.waiting l.initial.estimates l.initial.cells l.neighbour-index l.keys l.distances l.held l.estimates l.cells
