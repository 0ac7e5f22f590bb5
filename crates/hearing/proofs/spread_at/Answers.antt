-- `hearing::spread_at` meets its contract, by its tests.
-- Assumes nothing.
use Rattle.std.proofs.Common.{ap, not}
use borrow.Author.Tests.{eq-eqb, ne_eqb}
use Rattle.lists.proofs.Bools.{yes, no}
use Rattle.marching.specs.Spreading.{has_spread}
use Rattle.hearing.proofs.Saying.{said_some, said_none}
use Rattle.hearing.proofs.spread_at.Goals as goal

pub returns-then-key-from : goal.returns-then-key-from
returns-then-key-from c = λ rs ws h. rw (eq-eqb _ _ c.if-key-from.true)

pub returns-then-not-is_finite : goal.returns-then-not-is_finite
unfolding has_spread
returns-then-not-is_finite c =
    λ rs ws h.
    rw (
      ne_eqb _ _ c.if-key-from.false,
      said_none c.known-distance.result _ (c.known-distance.ensures rs ws h) (no c.is_finite.ensures (ap not c.if-not-is_finite.true)),
    )

pub returns : goal.returns
returns c =
    λ rs ws h.
    rw (
      ne_eqb _ _ c.if-key-from.false,
      said_some c.known-distance.result _ (c.known-distance.ensures rs ws h) (yes c.is_finite.ensures (ap not c.if-not-is_finite.false)),
    )
    c.has_spread.ensures
