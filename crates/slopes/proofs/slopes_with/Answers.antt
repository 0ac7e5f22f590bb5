-- `slopes::slopes_with` meets its contract, axis by axis.
-- Assumes nothing.
use Rattle.slopes.specs.Normals.{slopes_with}
use Rattle.slopes.proofs.Working.{slopes_stored}
use Rattle.slopes.proofs.slopes_with.Goals as goal

pub returns : goal.returns
returns c =
    slopes_stored _ _ _ _ _ _ _ _ _ _ _ _ c.in-Some.is
    c.morton_decode-c1.ensures c.morton_decode-c2.ensures
    c.step_of.ensures c.step_of-2.ensures c.step_of-3.ensures

pub returns-in_default : goal.returns-in_default
unfolding slopes_with
returns-in_default c = rw c.in_default.is
