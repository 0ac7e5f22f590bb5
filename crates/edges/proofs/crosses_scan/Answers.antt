-- `edges::crosses_scan` meets its contract: on an accepted table the search finds the weights of the rows.
-- Assumes nothing.
use mathlib.Core.Path.{sym, ◌∙◌}
use Rattle.edges.proofs.SurfaceLaws.{one_side, both_sides}
use Rattle.edges.proofs.crosses_scan.Goals as goal

pub returns-then-are_opposed : goal.returns-then-are_opposed
returns-then-are_opposed c = both_sides _ _ _ _ c.requires.0 _ _ (sym c.are_opposed.ensures ∙ c.if-are_opposed.true) _ _ c.is_joint.ensures

pub returns-else-are_opposed : goal.returns-else-are_opposed
returns-else-are_opposed c = c.if-are_opposed.false ∙ one_side _ _ _ _ c.requires.0 _ _ (sym c.are_opposed.ensures ∙ c.if-are_opposed.false)
