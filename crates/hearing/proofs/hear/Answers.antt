-- `hearing::hear` meets its contract: a mark that is a number is a stored neighbour's distance.
-- Assumes nothing.
use Rattle.std.proofs.Common.{ap, not}
use mathlib.Core.Path.{◌∙◌}
use Rattle.lists.proofs.Bools.{yes, no}
use Rattle.marching.specs.March.{heard}
use Rattle.hearing.proofs.Saying.{said_some, said_none}
use Rattle.hearing.proofs.hear.Goals as goal

pub returns-then-not-is_finite : goal.returns-then-not-is_finite
unfolding heard
returns-then-not-is_finite c =
    λ rs ws h.
    rw (said_none c.known-distance.result _ (c.known-distance.ensures rs ws h) (no c.is_finite.ensures (ap not c.if-not-is_finite.true)))

pub returns : goal.returns
unfolding heard
returns c =
    λ rs ws h.
    rw (said_some c.known-distance.result _ (c.known-distance.ensures rs ws h)
    (yes c.is_finite.ensures (ap not c.if-not-is_finite.false)))
    (c.better.ensures ∙ rw (c.candidate-voice.ensures, c.step_length.ensures))
