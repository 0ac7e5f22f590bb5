-- `racing::sow_all` meets its contract: what is left to sow says what the whole does.
-- Assumes nothing.
use Rattle.hearing.specs.Hearing.{seeds_of, field_of}
use Rattle.table.specs.Read.{rows_in}
use Prim.Native.Nat.{◌≤◌}
use mathlib.Core.Path.{◌≡◌}
use lib.ListN.{length}
use Rattle.fronts.specs.Fronts.{rooms_of}
use Rattle.racing.proofs.Marching.{SowAt}
use Rattle.racing.proofs.sow_all.Given as goal

abbrev pub invariant-loop-i : goal.invariant-loop-i
invariant-loop-i l = (l.i ≤ l.fn.plan.fused.count)
    × (length l.keys ≡ length l.initial.keys)
    × (length l.distances ≡ length l.initial.distances)
    × (length l.estimates ≡ length l.initial.estimates)
    × (length l.cells ≡ length l.initial.cells)
    × SowAt l.now.lean (seeds_of l.fn.plan)
    (field_of l.fn.plan) l.fn.plan.threshold (rooms_of l.initial.keys l.initial.cells)
    (rows_in l.fn.plan.fused) l.i l.now.rows l.keys l.distances l.now.waiting l.estimates l.cells
