-- Every public contract settles its outcome: two that meet it are equal, in the answer and in every lent place.
-- Assumes nothing.
use mathlib.Core.Path.{◌≡◌, sym, ◌∙◌}
use Rattle.triangles.proofs.build_triangles.Reads as build_triangles

pub build_triangles_determined : (κs : _) (a : _) (r r' : _) (s s' : _)
    → build_triangles.Post κs a r s
    → build_triangles.Post κs a r' s'
    → (r ≡ r')
    × (s.1.1.1.1.1.0.now ≡ s'.1.1.1.1.1.0.now)
    × (s.1.1.1.1.1.1.0.now ≡ s'.1.1.1.1.1.1.0.now)
    × (s.1.1.1.1.1.1.1.0.now ≡ s'.1.1.1.1.1.1.1.0.now)
    × (s.1.1.1.1.1.1.1.1.0.now ≡ s'.1.1.1.1.1.1.1.1.0.now)
build_triangles_determined κs a r r' s s' p q = (
  p.0 ∙ sym q.0,
  p.1.0 ∙ sym q.1.0,
  p.1.1.0 ∙ sym q.1.1.0,
  p.1.1.1.0 ∙ sym q.1.1.1.0,
  p.1.1.1.1 ∙ sym q.1.1.1.1,
)
