-- `hearing::known` meets its contract: the mark says whether the cell is stored.
-- Assumes nothing.
use mathlib.Core.Path.{sym, ◌∙◌}
use native.Mathlib.Omega.{arith}
use lib.Ieee.{of_bits, nan_bits}
use Rattle.hearing.proofs.Saying.{place_in, known_at, known_absent}
use Rattle.hearing.proofs.known.Goals as goal

pub float_from_bits-absent : goal.float_from_bits-absent
unfolding nan_bits
float_from_bits-absent c = tt

pub returns-in_default : goal.returns-in_default
unfolding of_bits
returns-in_default c = λ rs ws h. known_absent rs ws _ _ h _ c.requires.1 _ (sym c.find.ensures ∙ c.in_default.is)

pub offset_bounds-distances-i : goal.offset_bounds-distances-i
offset_bounds-distances-i c = omega (arith, place_in _ _ _ (sym c.find.ensures ∙ c.in-Ok.is), c.requires.0)

pub bounds-distances-i : goal.bounds-distances-i
bounds-distances-i c = omega (arith, place_in _ _ _ (sym c.find.ensures ∙ c.in-Ok.is), c.requires.0)

pub returns : goal.returns
returns c = λ rs ws h. known_at rs ws _ _ h _ c.requires.1 _ (sym c.find.ensures ∙ c.in-Ok.is)
