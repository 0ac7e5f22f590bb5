-- `higher::with_higher` meets its contract: a place that was found is put in, where the weight there is above 0.
-- Assumes nothing.
use Rattle.std.specs.Prelude.{Some, Option}
use Prim.Native.Nat.{ℕ, ◌+◌, ◌<◌}
use native.Mathlib.Omega.{arith}
use mathlib.Core.Path.{◌≡◌, sym, ◌∙◌}
use mathlib.Core.List.{List}
use lib.Ieee.{Float}
use lib.ListN.{length, take}
use lib.Seq.{length-take-le}
use Rattle.search.specs.Nearby.{find_above}
use Rattle.higher.specs.Steps.{AtRow}
use Rattle.groups.proofs.FoundLaws.{with_one_lem, with_none}
use Rattle.higher.proofs.PlaceLaws.{found_known, not_larger, not_found, too_light, weighed}
use Rattle.higher.proofs.with_higher.Goals as goal

-- the place that was found has a weight
weighs :
    (ks : List ℕ) (ws : List Float) (n row cell place : ℕ) {f : Option ℕ}
    → AtRow ks ws n row
    → f ≡ find_above cell (take n ks) (row + 1)
    → f ≡ Some place
    → place < length ws
weighs ks ws n row cell place r e i = let h = found_known ks ws n row cell place (sym e ∙ i) in omega (arith, h.1, r.weights)

pub returns-then-cell-keys : goal.returns-then-cell-keys
returns-then-cell-keys c = with_none c.args.places _ c.requires.1 (not_larger _ _ _ _ _ c.if-cell-keys.true)

pub slice_bounds-find_above-end : goal.slice_bounds-find_above-end
slice_bounds-find_above-end c = sym (length-take-le c.args.count c.args.keys.now c.requires.0.fits)

pub returns-in_default : goal.returns-in_default
returns-in_default c =
    with_none c.args.places _ c.requires.1
    (not_found _ _ _ _ _ c.if-cell-keys.false _ c.find_above.ensures c.in_default.is)

pub offset_bounds-weights-place : goal.offset_bounds-weights-place
offset_bounds-weights-place c = let h = weighs _ _ _ c.args.row _ _ c.requires.0 c.find_above.ensures c.in-Some.is in omega arith

pub bounds-weights-place : goal.bounds-weights-place
bounds-weights-place c = weighs _ _ _ c.args.row _ _ c.requires.0 c.find_above.ensures c.in-Some.is

pub overflow_cast-place : goal.overflow_cast-place
overflow_cast-place c =
    let h = weighs _ _ _ c.args.row _ _ c.requires.0 c.find_above.ensures c.in-Some.is in
    omega (arith, h, c.requires.0.weights, c.requires.0.few)

pub returns-then-weights-place : goal.returns-then-weights-place
returns-then-weights-place c =
    let h = weighs _ _ _ c.args.row _ _ c.requires.0 c.find_above.ensures c.in-Some.is in
    c.with.ensures ∙ with_one_lem c.args.places _ _ c.requires.1
    (weighed _ _ _ _ _ c.if-cell-keys.false _ c.find_above.ensures _ c.in-Some.is h c.if-weights-place.true)

pub returns-else-weights-place : goal.returns-else-weights-place
returns-else-weights-place c =
    let h = weighs _ _ _ c.args.row _ _ c.requires.0 c.find_above.ensures c.in-Some.is in
    with_none c.args.places _ c.requires.1
    (too_light _ _ _ _ _ c.if-cell-keys.false _ c.find_above.ensures _ c.in-Some.is h c.if-weights-place.false)
