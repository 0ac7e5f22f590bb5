-- `esdf_questions::slopes_next` meets its contract: a neighbour that is not stored changes nothing.
-- Assumes nothing.
use Rattle.esdf_questions.specs.Gradient.{slopes_with}
use Rattle.esdf_questions.proofs.slopes_next.Goals as goal

pub returns-in_default : goal.returns-in_default
unfolding slopes_with
returns-in_default c = rw (← c.stored_at.ensures, c.in_default.is)

pub returns : goal.returns
returns c = rw (← c.stored_at.ensures, c.in-Some.is) c.slopes_with.ensures
