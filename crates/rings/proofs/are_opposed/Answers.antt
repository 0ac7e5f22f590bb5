-- `rings::are_opposed` meets its contract: the test is the definition, operand by operand.
-- Assumes nothing.
use mathlib.Core.Path.{◌≡◌, refl}
use mathlib.Core.Bool.{Bool, true, false, not, beq}
use lib.Ieee.{unlike}
use Rattle.rings.specs.Sides.{opposed}
use Rattle.rings.proofs.are_opposed.Goals as goal

differ : (a b : Bool) → not (beq a b) ≡ unlike a b
differ true true = refl
differ true false = refl
differ false true = refl
differ false false = refl

pub returns : goal.returns
unfolding opposed
returns c = rw differ
