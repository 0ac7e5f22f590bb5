-- The public contract settles its outcome: two that meet it are equal.
-- Assumes nothing.
use mathlib.Core.Path.{◌≡◌, sym, ◌∙◌}
use Rattle.cuts.proofs.patch_of.Reads as patch_of_call

pub patch_of_determined : (κs : _) (a : _) (r r' : _) (s s' : _) → patch_of_call.Post κs a r s → patch_of_call.Post κs a r' s' → r ≡ r'
patch_of_determined κs a r r' s s' p q = p ∙ sym q
