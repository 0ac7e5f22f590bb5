-- The public contract settles its outcome: two that meet it are equal.
-- Assumes nothing.
use mathlib.Core.Path.{◌≡◌, sym, ◌∙◌}
use Rattle.winding.proofs.is_in_front.Reads as front

pub is_in_front_determined : (κs : _) (a : _) (r r' : _) (s s' : _) → front.Post κs a r s → front.Post κs a r' s' → r ≡ r'
is_in_front_determined κs a r r' s s' p q = p ∙ sym q
