-- Every public contract settles its outcome: two that meet it are equal.
-- Assumes nothing.
use mathlib.Core.Path.{◌≡◌, sym, ◌∙◌}
use Rattle.batching.proofs.RefusedBatchFromRefusal.from.Reads as from
use Rattle.batching.proofs.readings_taken.Reads as readings_taken
use Rattle.batching.proofs.batched_of.Reads as batched_of

pub from_determined : (κs : _) (a : _) (r r' : _) (s s' : _) → from.Post κs a r s → from.Post κs a r' s' → r ≡ r'
from_determined κs a r r' s s' p q = p ∙ sym q

pub readings_taken_determined : (κs : _) (a : _) (r r' : _) (s s' : _) → readings_taken.Post κs a r s → readings_taken.Post κs a r' s' → r ≡ r'
readings_taken_determined κs a r r' s s' p q = p ∙ sym q

pub batched_of_determined : (κs : _) (a : _) (r r' : _) (s s' : _) → batched_of.Post κs a r s → batched_of.Post κs a r' s' → r ≡ r'
batched_of_determined κs a r r' s s' p q = p ∙ sym q
