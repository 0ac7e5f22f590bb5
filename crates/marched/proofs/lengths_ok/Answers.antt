-- `marched::lengths_ok` meets its contract: its tests are the definition's.
-- Assumes nothing.
use mathlib.Core.Path.{refl}
use Rattle.lists.proofs.Bools.{and_eq}
use Rattle.marched.proofs.lengths_ok.Goals as goal

pub returns : goal.returns
returns c = and_eq c.pair_ok.ensures refl
