-- Every public contract settles its outcome: two that meet it are equal, in the answer and in every lent place.
-- Assumes nothing.
use mathlib.Core.Path.{◌≡◌, sym, ◌∙◌}
use Rattle.answers.specs.declared.readings.ReadingsBack.{ReadingsBack}
use Rattle.answers.proofs.readings.fused_number.Reads as fused_number
use Rattle.answers.proofs.readings.batch_back.Reads as batch_back
use Rattle.answers.proofs.one_if.Reads as one_if
use Rattle.answers.proofs.answer_number.Reads as answer_number
use Rattle.answers.proofs.found_number.Reads as found_number

pub fused_number_determined : (κs : _) (a : _) (r r' : _) (s s' : _) → fused_number.Post κs a r s → fused_number.Post κs a r' s' → r ≡ r'
fused_number_determined κs a r r' s s' p q = p ∙ sym q

pub batch_back_determined :
    (κs : _) (a : _) (r r' : ReadingsBack) (s s' : _)
    → batch_back.Post κs a r s
    → batch_back.Post κs a r' s'
    → (r.number ≡ r'.number) × (r.counts ≡ r'.counts) × (r.at ≡ r'.at)
batch_back_determined κs a r r' s s' p q = (p.0 ∙ sym q.0, p.1.0 ∙ sym q.1.0, p.1.1 ∙ sym q.1.1)

pub one_if_determined : (κs : _) (a : _) (r r' : _) (s s' : _) → one_if.Post κs a r s → one_if.Post κs a r' s' → r ≡ r'
one_if_determined κs a r r' s s' p q = p ∙ sym q

pub answer_number_determined : (g l : _) (κs : _) (a : _) (r r' : _) (s s' : _) → answer_number.Post g l κs a r s → answer_number.Post g l κs a r' s' → r ≡ r'
answer_number_determined g l κs a r r' s s' p q = p ∙ sym q

pub found_number_determined : (g l : _) (κs : _) (a : _) (r r' : _) (s s' : _) → found_number.Post g l κs a r s → found_number.Post g l κs a r' s' → r ≡ r'
found_number_determined g l κs a r r' s s' p q = p ∙ sym q
