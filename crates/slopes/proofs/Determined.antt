-- Every public contract settles its outcome: two that meet it are equal, in the answer and in every lent place.
-- Assumes nothing.
use mathlib.Core.Path.{◌≡◌, sym, ◌∙◌}
use Rattle.slopes.proofs.distance_of.Reads as distance_of_call
use Rattle.slopes.proofs.vertex_of.Reads as vertex_of
use Rattle.slopes.proofs.length.Reads as length
use Rattle.slopes.proofs.compute_normal.Reads as compute_normal
use Rattle.slopes.proofs.vertex_at.Reads as vertex_at

pub distance_of_determined : (κs : _) (a : _) (r r' : _) (s s' : _) → distance_of_call.Post κs a r s → distance_of_call.Post κs a r' s' → r ≡ r'
distance_of_determined κs a r r' s s' p q = p ∙ sym q

pub vertex_of_determined : (κs : _) (a : _) (r r' : _) (s s' : _) → vertex_of.Post κs a r s → vertex_of.Post κs a r' s' → r ≡ r'
vertex_of_determined κs a r r' s s' p q = p ∙ sym q

pub length_determined : (κs : _) (a : _) (r r' : _) (s s' : _) → length.Post κs a r s → length.Post κs a r' s' → r ≡ r'
length_determined κs a r r' s s' p q = p ∙ sym q

pub compute_normal_determined : (κs : _) (a : _) (r r' : _) (s s' : _) → compute_normal.Post κs a r s → compute_normal.Post κs a r' s' → r ≡ r'
compute_normal_determined κs a r r' s s' p q = p ∙ sym q

pub vertex_at_determined : (κs : _) (a : _) (r r' : _) (s s' : _) → vertex_at.Post κs a r s → vertex_at.Post κs a r' s' → r ≡ r'
vertex_at_determined κs a r r' s s' p q = p ∙ sym q
