-- Every public contract settles its outcome: two that meet it are equal.
-- Assumes nothing.
use mathlib.Core.Path.{◌≡◌, sym, ◌∙◌}
use Rattle.ends.proofs.Ends.none.Reads as none
use Rattle.ends.proofs.Ends.with.Reads as with
use Rattle.ends.proofs.Ends.lowest.Reads as lowest
use Rattle.ends.proofs.Ends.highest.Reads as highest

pub none_determined : (κs : _) (a : _) (r r' : _) (s s' : _) → none.Post κs a r s → none.Post κs a r' s' → r ≡ r'
none_determined κs a r r' s s' p q = p ∙ sym q

pub with_determined : (κs : _) (a : _) (r r' : _) (s s' : _) → with.Post κs a r s → with.Post κs a r' s' → r ≡ r'
with_determined κs a r r' s s' p q = p ∙ sym q

pub lowest_determined : (κs : _) (a : _) (r r' : _) (s s' : _) → lowest.Post κs a r s → lowest.Post κs a r' s' → r ≡ r'
lowest_determined κs a r r' s s' p q = p ∙ sym q

pub highest_determined : (κs : _) (a : _) (r r' : _) (s s' : _) → highest.Post κs a r s → highest.Post κs a r' s' → r ≡ r'
highest_determined κs a r r' s s' p q = p ∙ sym q
