-- Every public contract settles its outcome: two that meet it are equal.
-- Assumes nothing.
use mathlib.Core.Path.{◌≡◌, sym, ◌∙◌}
use Rattle.refusals.proofs.U32FromRefusal.from.Reads as from

pub from_determined : (κs : _) (a : _) (r r' : _) (s s' : _) → from.Post κs a r s → from.Post κs a r' s' → r ≡ r'
from_determined κs a r r' s s' p q = p ∙ sym q
