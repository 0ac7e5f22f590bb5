-- Every public contract settles its outcome: two that meet it are equal, in the answer and in every lent place.
-- Assumes nothing.
use mathlib.Core.Path.{◌≡◌, sym, ◌∙◌}
use Rattle.neighbors.proofs.Near.cells.Reads as cells
use Rattle.neighbors.proofs.around.Reads as around
use Rattle.neighbors.proofs.are_adjacent.Reads as are_adjacent
use Rattle.neighbors.proofs.neighbors_index64.Reads as neighbors_index64

pub cells_determined : (κs : _) (a : _) (r r' : _) (s s' : _) → cells.Post κs a r s → cells.Post κs a r' s' → r.now ≡ r'.now
cells_determined κs a r r' s s' p q = p ∙ sym q

pub around_determined : (κs : _) (a : _) (r r' : _) (s s' : _) → around.Post κs a r s → around.Post κs a r' s' → r ≡ r'
around_determined κs a r r' s s' p q = p ∙ sym q

pub are_adjacent_determined : (κs : _) (a : _) (r r' : _) (s s' : _) → are_adjacent.Post κs a r s → are_adjacent.Post κs a r' s' → r ≡ r'
are_adjacent_determined κs a r r' s s' p q = p ∙ sym q

pub neighbors_index64_determined :
    (κs : _) (a : _) (r r' : _) (s s' : _)
    → neighbors_index64.Post κs a r s
    → neighbors_index64.Post κs a r' s'
    → (r ≡ r') × (s.1.0.now ≡ s'.1.0.now)
neighbors_index64_determined κs a r r' s s' p q = (p.0 ∙ sym q.0, p.1 ∙ sym q.1)
