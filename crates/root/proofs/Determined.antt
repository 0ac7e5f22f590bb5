-- Every public contract settles its outcome: two that meet it are equal.
-- Assumes nothing.
use Rattle.std.proofs.Common.{◌≡◌, sym, ◌∙◌}
use Rattle.root.proofs.root.Reads as root

pub root_determined : (κs : _) (a : _) (r r' : _) (s s' : _) → root.Post κs a r s → root.Post κs a r' s' → r ≡ r'
root_determined κs a r r' s s' p q = p ∙ sym q
