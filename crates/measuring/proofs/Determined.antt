-- Every public contract settles its outcome: two that meet it are equal, in the answer and in every lent place. Each is
-- one equation of an answer beside the table that is left, and its parts follow.
-- Assumes nothing.
use mathlib.Core.Path.{◌≡◌, sym, ◌∙◌}
use Rattle.measuring.proofs.admit.Reads as admit

pub admit_determined : (κs : _) (a : _) (r r' : _) (s s' : _) → admit.Post κs a r s → admit.Post κs a r' s' → r ≡ r'
admit_determined κs a r r' s s' p q = p ∙ sym q
