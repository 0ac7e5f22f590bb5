-- `surfaces::arrow_of` meets its contract: axis by axis.
-- Assumes nothing.
use Rattle.surfaces.specs.Areas.{arrow_of}
use mathlib.Core.Path.{refl}
use Rattle.surfaces.proofs.arrow_of.Goals as goal

pub returns : goal.returns
unfolding arrow_of
returns c = refl
