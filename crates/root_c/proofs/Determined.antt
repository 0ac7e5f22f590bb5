-- Every public contract settles its outcome: two that meet it are equal.
-- Assumes nothing.
use mathlib.Core.Path.{◌≡◌, sym, ◌∙◌}
use Rattle.root_c.proofs.root_or.Reads as root-or

pub root_or_determined : (κs : _) (a : _) (r r' : _) (s s' : _) → root-or.Post κs a r s → root-or.Post κs a r' s' → r ≡ r'
root_or_determined κs a r r' s s' p q = p ∙ sym q
