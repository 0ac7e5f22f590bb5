-- Every public contract settles its outcome: two that meet it are equal, in the answer and in every lent place.
-- Assumes nothing.
use mathlib.Core.Path.{◌≡◌, sym, ◌∙◌}
use Rattle.search.proofs.keys_ascend.Reads as keys_ascend
use Rattle.search.proofs.place_of.Reads as place_of_call
use Rattle.search.proofs.find_row.Reads as find_row
use Rattle.search.proofs.find_above.Reads as find_above
use Rattle.search.proofs.place_near.Reads as place_near
use Rattle.search.proofs.find_near.Reads as find_near

pub keys_ascend_determined : (κs : _) (a : _) (r r' : _) (s s' : _) → keys_ascend.Post κs a r s → keys_ascend.Post κs a r' s' → r ≡ r'
keys_ascend_determined κs a r r' s s' p q = p ∙ sym q

pub place_of_determined : (κs : _) (a : _) (r r' : _) (s s' : _) → place_of_call.Post κs a r s → place_of_call.Post κs a r' s' → r ≡ r'
place_of_determined κs a r r' s s' p q = p ∙ sym q

pub find_row_determined : (κs : _) (a : _) (r r' : _) (s s' : _) → find_row.Post κs a r s → find_row.Post κs a r' s' → r ≡ r'
find_row_determined κs a r r' s s' p q = p ∙ sym q

pub find_above_determined : (κs : _) (a : _) (r r' : _) (s s' : _) → find_above.Post κs a r s → find_above.Post κs a r' s' → r ≡ r'
find_above_determined κs a r r' s s' p q = p ∙ sym q

pub place_near_determined : (κs : _) (a : _) (r r' : _) (s s' : _) → place_near.Post κs a r s → place_near.Post κs a r' s' → r ≡ r'
place_near_determined κs a r r' s s' p q = p ∙ sym q

pub find_near_determined : (κs : _) (a : _) (r r' : _) (s s' : _) → find_near.Post κs a r s → find_near.Post κs a r' s' → r ≡ r'
find_near_determined κs a r r' s s' p q = p ∙ sym q
