-- `slopes::distance_of` meets its contract: the place that the search found is read, where the list has it.
-- Assumes nothing.
use mathlib.Core.Path.{◌∙◌}
use native.Mathlib.Omega.{arith}
use lib.Ieee.{nan}
use Rattle.slopes.proofs.StoredLaws.{nowhere, here}
use Rattle.slopes.proofs.distance_of.Goals as goal

pub returns-in_err-place : goal.returns-in_err-place
returns-in_err-place c = c.from_residual.ensures ∙ nowhere _ _ _ _ c.find_row.ensures c.in_err-place.was

pub returns : goal.returns
returns c =
    let h = c.get.ensures.lookup in
    c.copied.ensures ∙ here _ _ _ _ c.find_row.ensures _ _ c.in_ok-place.was h.0 (h.4 (omega arith) nan)
