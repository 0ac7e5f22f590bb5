-- Every public contract settles its outcome: two that meet it are equal, in the answer and in every lent place.
-- Assumes nothing.
use mathlib.Core.Path.{◌≡◌, sym, ◌∙◌}
use Rattle.words.proofs.write_zeros.Reads as write_zeros
use Rattle.words.proofs.write_word.Reads as write_word_call
use Rattle.words.proofs.read_word.Reads as read_word_call
use Rattle.words.proofs.float_of_pattern.Reads as float_of_pattern

pub write_zeros_determined : (κs : _) (a : _) (r r' : _) (s s' : _) → write_zeros.Post κs a r s → write_zeros.Post κs a r' s' → s.0.now ≡ s'.0.now
write_zeros_determined κs a r r' s s' p q = p ∙ sym q

pub write_word_determined : (κs : _) (a : _) (r r' : _) (s s' : _) → write_word_call.Post κs a r s → write_word_call.Post κs a r' s' → s.0.now ≡ s'.0.now
write_word_determined κs a r r' s s' p q = p ∙ sym q

pub read_word_determined : (κs : _) (a : _) (r r' : _) (s s' : _) → read_word_call.Post κs a r s → read_word_call.Post κs a r' s' → r ≡ r'
read_word_determined κs a r r' s s' p q = p ∙ sym q

pub float_of_pattern_determined : (κs : _) (a : _) (r r' : _) (s s' : _) → float_of_pattern.Post κs a r s → float_of_pattern.Post κs a r' s' → r ≡ r'
float_of_pattern_determined κs a r r' s s' p q = p ∙ sym q
