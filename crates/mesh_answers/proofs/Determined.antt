-- Every public contract settles its outcome: two that meet it are equal, in the answer and in every lent place.
-- Assumes nothing.
use mathlib.Core.Path.{◌≡◌, sym, ◌∙◌}
use Rattle.mesh_answers.proofs.span_start.Reads as span_start
use Rattle.mesh_answers.proofs.span_length.Reads as span_length

pub span_start_determined : (κs : _) (a : _) (r r' : _) (s s' : _) → span_start.Post κs a r s → span_start.Post κs a r' s' → r ≡ r'
span_start_determined κs a r r' s s' p q = p ∙ sym q

pub span_length_determined : (κs : _) (a : _) (r r' : _) (s s' : _) → span_length.Post κs a r s → span_length.Post κs a r' s' → r ≡ r'
span_length_determined κs a r r' s s' p q = p ∙ sym q
