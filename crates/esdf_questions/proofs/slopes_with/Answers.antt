-- `esdf_questions::slopes_with` meets its contract: each axis by its step.
-- Assumes nothing.
use Rattle.esdf_questions.proofs.Answers.{slopes_of}
use Rattle.esdf_questions.proofs.slopes_with.Goals as goal

pub returns : goal.returns
returns c =
    let a = c.args in
    slopes_of a.key a.distance a.sum a.neighbour a.found _ _ _ _ _
    c.morton_decode-a.ensures
    c.morton_decode-b.ensures
    c.step.ensures
    c.step-2.ensures c.step-3.ensures
