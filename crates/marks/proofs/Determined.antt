-- Every public contract of a search settles its outcome: two answers that meet it are equal.
-- Assumes nothing.
use mathlib.Core.Path.{◌≡◌, sym, ◌∙◌}
use Rattle.marks.proofs.home.Reads as home
use Rattle.marks.proofs.find.Reads as find

pub home_determined : (κs : _) (a : _) (r r' : _) (s s' : _) → home.Post κs a r s → home.Post κs a r' s' → r ≡ r'
home_determined κs a r r' s s' p q = p ∙ sym q

pub find_determined : (κs : _) (a : _) (r r' : _) (s s' : _) → find.Post κs a r s → find.Post κs a r' s' → r ≡ r'
find_determined κs a r r' s s' p q = p ∙ sym q
