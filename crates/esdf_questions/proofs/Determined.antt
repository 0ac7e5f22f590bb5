-- Every public contract settles its outcome: two that meet it are equal, in the answer and in every lent place.
-- Assumes nothing.
use mathlib.Core.Path.{◌≡◌, sym, ◌∙◌}
use Rattle.esdf_questions.proofs.get_distance.Reads as get_distance
use Rattle.esdf_questions.proofs.is_free_space.Reads as is_free_space
use Rattle.esdf_questions.proofs.get_gradient.Reads as get_gradient

pub get_distance_determined : (κs : _) (a : _) (r r' : _) (s s' : _) → get_distance.Post κs a r s → get_distance.Post κs a r' s' → r ≡ r'
get_distance_determined κs a r r' s s' p q = p ∙ sym q

pub is_free_space_determined : (κs : _) (a : _) (r r' : _) (s s' : _) → is_free_space.Post κs a r s → is_free_space.Post κs a r' s' → r ≡ r'
is_free_space_determined κs a r r' s s' p q = p ∙ sym q

pub get_gradient_determined : (κs : _) (a : _) (r r' : _) (s s' : _) → get_gradient.Post κs a r s → get_gradient.Post κs a r' s' → r ≡ r'
get_gradient_determined κs a r r' s s' p q = p ∙ sym q
