-- `bcc_utils::nearest_candidate` meets its contract: the nearest candidate is the first of the class that moves fewer coordinates. Assumes nothing.
use mathlib.Core.Path.{sym, ap, ◌∙◌}
use Rattle.bcc_utils.specs.Snapping.{placed}
use Rattle.bcc_utils.proofs.Candidates.{candidate_even, candidate_odd}
use Rattle.bcc_utils.proofs.nearest_candidate.Goals as goal

pub returns-then-is_mostly_even : goal.returns-then-is_mostly_even
returns-then-is_mostly_even c =
    let most = sym c.is_mostly_even.ensures ∙ c.if-is_mostly_even.true in
    rw (c.even_down.ensures, c.even_down-then-is_mostly_even.ensures, c.even_down-then-is_mostly_even-2.ensures)
    (ap placed (sym (candidate_even _ _ _ most)))

pub returns-else-is_mostly_even : goal.returns-else-is_mostly_even
returns-else-is_mostly_even c =
    let few = sym c.is_mostly_even.ensures ∙ c.if-is_mostly_even.false in
    rw (c.odd_up.ensures, c.odd_up-else-is_mostly_even.ensures, c.odd_up-else-is_mostly_even-2.ensures)
    (ap placed (sym (candidate_odd _ _ _ few)))
