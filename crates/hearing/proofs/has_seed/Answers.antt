-- `hearing::has_seed` meets its contract: the table's row with that key decides.
-- Assumes nothing.
use mathlib.Core.Path.{sym, ◌∙◌}
use native.Mathlib.Omega.{arith}
use Rattle.hearing.proofs.Seeding.{place_below, seed_absent, seed_at_lem}
use Rattle.hearing.proofs.has_seed.Goals as goal

pub returns-in_default : goal.returns-in_default
returns-in_default c = seed_absent _ _ _ _ _ c.requires _ (sym c.find_row.ensures ∙ c.in_default.is)

pub offset_bounds-fused_distances-i : goal.offset_bounds-fused_distances-i
offset_bounds-fused_distances-i c =
    let l = c.requires in
    let found = sym c.find_row.ensures ∙ c.in-Some.is in
    omega (arith, place_below c.args.threshold _ _ _ _ l _ _ found, l.fits, l.distances, l.weights)

pub bounds-fused_distances-i : goal.bounds-fused_distances-i
bounds-fused_distances-i c =
    let l = c.requires in
    let found = sym c.find_row.ensures ∙ c.in-Some.is in
    omega (arith, place_below c.args.threshold _ _ _ _ l _ _ found, l.fits, l.distances, l.weights)

pub offset_bounds-fused_weights-i : goal.offset_bounds-fused_weights-i
offset_bounds-fused_weights-i c =
    let l = c.requires in
    let found = sym c.find_row.ensures ∙ c.in-Some.is in
    omega (arith, place_below c.args.threshold _ _ _ _ l _ _ found, l.fits, l.distances, l.weights)

pub bounds-fused_weights-i : goal.bounds-fused_weights-i
bounds-fused_weights-i c =
    let l = c.requires in
    let found = sym c.find_row.ensures ∙ c.in-Some.is in
    omega (arith, place_below c.args.threshold _ _ _ _ l _ _ found, l.fits, l.distances, l.weights)

pub returns : goal.returns
returns c = c.is_seed.ensures ∙ seed_at_lem _ _ _ _ _ c.requires _ _ (sym c.find_row.ensures ∙ c.in-Some.is)
