-- The public contract settles its outcome: two that meet it are equal, in both answers and in every place of the five lists.
-- Assumes nothing.
use mathlib.Core.Path.{◌≡◌, sym, ◌∙◌}
use Rattle.cutting.proofs.list_closed.Reads as list_closed
use Rattle.cutting.specs.declared.ClosedListed.{ClosedListed}

-- two answers in one
same_closed : (r r' : ClosedListed) → r.edges ≡ r'.edges → r.triangles ≡ r'.triangles → r ≡ r'
same_closed r r' p q i = record { edges = p i; triangles = q i }

pub list_closed_determined :
    (κs : _) (a : _) (r r' : _) (s s' : _)
    → list_closed.Post κs a r s
    → list_closed.Post κs a r' s'
    → (r ≡ r')
    × (s.1.1.0.now ≡ s'.1.1.0.now)
    × (s.1.1.1.0.now ≡ s'.1.1.1.0.now)
    × (s.1.1.1.1.0.now ≡ s'.1.1.1.1.0.now)
    × (s.1.1.1.1.1.0.now ≡ s'.1.1.1.1.1.0.now)
    × (s.1.1.1.1.1.1.0.now ≡ s'.1.1.1.1.1.1.0.now)
list_closed_determined κs a r r' s s' p q = (
  same_closed r r' (p.edges ∙ sym q.edges) (p.triangles ∙ sym q.triangles),
  p.first ∙ sym q.first,
  p.second ∙ sym q.second,
  p.t0 ∙ sym q.t0,
  p.t1 ∙ sym q.t1,
  p.t2 ∙ sym q.t2,
)
