-- The public contract settles its outcome: two that meet it are equal.
-- Assumes nothing.
use mathlib.Core.Path.{◌≡◌, sym, ◌∙◌}
use Rattle.higher.proofs.higher_of.Reads as higher_of

pub higher_of_determined : (κs : _) (a : _) (r r' : _) (s s' : _) → higher_of.Post κs a r s → higher_of.Post κs a r' s' → r ≡ r'
higher_of_determined κs a r r' s s' p q = p ∙ sym q
