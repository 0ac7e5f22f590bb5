-- Every public contract settles its outcome: two that meet it are equal.
-- Assumes nothing.
use Rattle.std.proofs.Common.{◌≡◌, sym, ◌∙◌}
use Rattle.floats.proofs.size.Reads as size
use Rattle.floats.proofs.smaller.Reads as smaller
use Rattle.floats.proofs.larger.Reads as larger
use Rattle.floats.proofs.clamp.Reads as clamp
use Rattle.floats.proofs.sign.Reads as sign
use Rattle.floats.proofs.is_finite.Reads as is_finite
use Rattle.floats.proofs.between.Reads as between
use Rattle.floats.proofs.within.Reads as within
use Rattle.floats.proofs.beyond.Reads as beyond
use Rattle.floats.proofs.positive_to.Reads as positive-to
use Rattle.floats.proofs.round_whole.Reads as round_whole

pub size_determined : (κs : _) (a : _) (r r' : _) (s s' : _) → size.Post κs a r s → size.Post κs a r' s' → r ≡ r'
size_determined κs a r r' s s' p q = p ∙ sym q

pub smaller_determined : (κs : _) (a : _) (r r' : _) (s s' : _) → smaller.Post κs a r s → smaller.Post κs a r' s' → r ≡ r'
smaller_determined κs a r r' s s' p q = p ∙ sym q

pub larger_determined : (κs : _) (a : _) (r r' : _) (s s' : _) → larger.Post κs a r s → larger.Post κs a r' s' → r ≡ r'
larger_determined κs a r r' s s' p q = p ∙ sym q

pub clamp_determined : (κs : _) (a : _) (r r' : _) (s s' : _) → clamp.Post κs a r s → clamp.Post κs a r' s' → r ≡ r'
clamp_determined κs a r r' s s' p q = p ∙ sym q

pub sign_determined : (κs : _) (a : _) (r r' : _) (s s' : _) → sign.Post κs a r s → sign.Post κs a r' s' → r ≡ r'
sign_determined κs a r r' s s' p q = p ∙ sym q

pub is_finite_determined : (κs : _) (a : _) (r r' : _) (s s' : _) → is_finite.Post κs a r s → is_finite.Post κs a r' s' → r ≡ r'
is_finite_determined κs a r r' s s' p q = p ∙ sym q

pub between_determined : (κs : _) (a : _) (r r' : _) (s s' : _) → between.Post κs a r s → between.Post κs a r' s' → r ≡ r'
between_determined κs a r r' s s' p q = p ∙ sym q

pub within_determined : (κs : _) (a : _) (r r' : _) (s s' : _) → within.Post κs a r s → within.Post κs a r' s' → r ≡ r'
within_determined κs a r r' s s' p q = p ∙ sym q

pub beyond_determined : (κs : _) (a : _) (r r' : _) (s s' : _) → beyond.Post κs a r s → beyond.Post κs a r' s' → r ≡ r'
beyond_determined κs a r r' s s' p q = p ∙ sym q

pub positive_to_determined : (κs : _) (a : _) (r r' : _) (s s' : _) → positive-to.Post κs a r s → positive-to.Post κs a r' s' → r ≡ r'
positive_to_determined κs a r r' s s' p q = p ∙ sym q

pub round_whole_determined : (κs : _) (a : _) (r r' : _) (s s' : _) → round_whole.Post κs a r s → round_whole.Post κs a r' s' → r ≡ r'
round_whole_determined κs a r r' s s' p q = p ∙ sym q
