-- Every public contract settles its outcome: two that meet it are equal, in the answer and in every lent place.
-- Assumes nothing.
use mathlib.Core.Path.{◌≡◌, sym, ◌∙◌}
use Rattle.lines.proofs.digit_of.Reads as digit_of_call
use Rattle.lines.proofs.line_of.Reads as line_of_call

pub digit_of_determined : (κs : _) (a : _) (r r' : _) (s s' : _) → digit_of_call.Post κs a r s → digit_of_call.Post κs a r' s' → r ≡ r'
digit_of_determined κs a r r' s s' p q = p.0 ∙ sym q.0

pub line_of_determined : (κs : _) (a : _) (r r' : _) (s s' : _) → line_of_call.Post κs a r s → line_of_call.Post κs a r' s' → r ≡ r'
line_of_determined κs a r r' s s' p q = p ∙ sym q
