-- `surfaces::cross_of` meets its contract: axis by axis.
-- Assumes nothing.
use Rattle.surfaces.specs.Areas.{cross_of}
use mathlib.Core.Path.{refl}
use Rattle.surfaces.proofs.cross_of.Goals as goal

pub returns : goal.returns
unfolding cross_of
returns c = refl
