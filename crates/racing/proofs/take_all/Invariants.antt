-- `racing::take_all` meets its contract: what is left to take says what the whole does.
-- Assumes nothing.
use Rattle.hearing.specs.Hearing.{seeds_of, field_of}
use Rattle.table.specs.Read.{rows_in}
use Prim.Native.Nat.{suc, ◌-◌}
use mathlib.Core.Path.{◌≡◌}
use lib.ListN.{length}
use Rattle.neighbors.specs.Neighbors.{neighbours}
use Rattle.marching.specs.March.{State, seeds, take_up_to}
use Rattle.fronts.specs.Fronts.{rooms_of}
use Rattle.racing.specs.Racing.{Sown}
use Rattle.racing.proofs.Marching.{TakeAt}
use Rattle.racing.proofs.take_all.Given as goal

abbrev pub invariant-loop-now : goal.invariant-loop-now
invariant-loop-now l = (length l.keys ≡ length l.initial.keys)
    × (length l.distances ≡ length l.initial.distances)
    × (length l.estimates ≡ length l.initial.estimates)
    × (length l.cells ≡ length l.initial.cells)
    × ((s : State)
    → Sown (seeds l.fn.plan.threshold (rows_in l.fn.plan.fused)) neighbours l.fn.at.lean s
    l.fn.at.rows l.initial.keys l.initial.distances l.fn.at.waiting l.initial.estimates l.initial.cells
    → TakeAt l.now.lean (seeds_of l.fn.plan)
    (field_of l.fn.plan) (rooms_of l.initial.keys l.initial.cells)
    (take_up_to (field_of l.fn.plan) (rooms_of l.initial.keys l.initial.cells) (suc (length l.initial.keys)) s) l.takings l.now.rows l.keys l.distances
    l.now.waiting l.estimates l.cells)

abbrev pub decreases-loop-now : goal.decreases-loop-now
decreases-loop-now l = suc (length l.initial.keys) - l.takings
