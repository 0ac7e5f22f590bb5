-- `thinning::forget` meets its contract: a mark that says no distance is that of a cell that only waits.
-- Assumes nothing.
use Rattle.std.proofs.Common.{ap, not}
use mathlib.Core.Path.{sym, ◌∙◌}
use native.Mathlib.Omega.{arith}
use borrow.Author.Tests.{not-false, not-true}
use Rattle.hearing.proofs.Saying.{place_in}
use Rattle.thinning.proofs.Forgetting.{forget_absent, forget_stored, forget_waiting}
use Rattle.thinning.proofs.forget.Goals as goal

pub returns-in_default : goal.returns-in_default
returns-in_default c = λ rs ws h few real. forget_absent _ real rs ws _ _ h _ (sym c.find.ensures ∙ c.in_default.is)

pub offset_bounds-distances-place : goal.offset_bounds-distances-place
offset_bounds-distances-place c = omega (arith, place_in _ _ _ (sym c.find.ensures ∙ c.in-Ok.is), c.requires)

pub bounds-distances-place : goal.bounds-distances-place
bounds-distances-place c = omega (arith, place_in _ _ _ (sym c.find.ensures ∙ c.in-Ok.is), c.requires)

pub leave-requires : goal.leave-requires
leave-requires c = (c.requires, place_in _ _ _ (sym c.find.ensures ∙ c.in-Ok.is))

pub returns-then-not-is_finite : goal.returns-then-not-is_finite
returns-then-not-is_finite c =
    λ rs ws h few real.
    forget_waiting _ real rs ws _ _ h _ (sym c.find.ensures ∙ c.in-Ok.is)
    (sym c.is_finite.ensures ∙ not-true _ (ap not c.if-not-is_finite.true)) few _ _ c.leave.ensures

pub returns-else-not-is_finite : goal.returns-else-not-is_finite
returns-else-not-is_finite c =
    λ rs ws h few real.
    forget_stored _ real rs ws _ _ h _ (sym c.find.ensures ∙ c.in-Ok.is)
    (sym c.is_finite.ensures ∙ not-false _ (ap not c.if-not-is_finite.false))
