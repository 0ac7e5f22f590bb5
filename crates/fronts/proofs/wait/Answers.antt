-- `fronts::wait` meets its contract, by what its mark says and the kind of march.
-- Assumes nothing.
use Rattle.hearing.specs.Hearing.{seeds_of, field_of}
use mathlib.Core.Path.{refl, sym, ◌∙◌}
use mathlib.Core.Bool.{true, false}
use mathlib.Core.List.{[], ◌∷◌}
use native.Mathlib.Omega.{arith}
use lib.ListN.{length}
use Rattle.marching.specs.March.{wait}
use Rattle.hearing.proofs.Walking.{real_key}
use Rattle.fronts.proofs.Marking.{wait_marked, wait_as}
use Rattle.fronts.proofs.wait.Goals as goal

pub returns-in_default : goal.returns-in_default
returns-in_default c =
    λ s h told room.
    wait_marked _ _ _ (real_key _ c.requires.key_value.0) s _ _ _ _ _ h _ (sym c.find.ensures ∙ c.in_default.is)

pub returns-then-lean : goal.returns-then-lean
returns-then-lean c =
    let a = c.args in
    let d = c.wait_lean in
    wait_as a.lean true (seeds_of a.plan.now)
    (field_of a.plan.now) a.from (a.key ∷ []) (wait (length a.cells.now) a.estimate a.key)
    a.keys.now a.distances.now a.waiting a.estimates.now a.cells.now d.result
    a.keys.now a.distances.now d.new.estimates d.new.cells c.if-lean.true d.ensures

pub returns-else-lean : goal.returns-else-lean
returns-else-lean c =
    let a = c.args in
    let d = c.wait_marked in
    wait_as a.lean false (seeds_of a.plan.now)
    (field_of a.plan.now) a.from (a.key ∷ []) (wait (length a.cells.now) a.estimate a.key)
    a.keys.now a.distances.now a.waiting a.estimates.now a.cells.now d.result
    d.new.keys d.new.distances d.new.estimates d.new.cells c.if-lean.false
    (λ s h told room. d.ensures s h (let l = room refl in omega arith))
