-- The public contract settles its outcome: two that meet it are equal in every place of both lists that it writes.
-- Assumes nothing.
use mathlib.Core.Path.{◌≡◌, sym, ◌∙◌}
use Rattle.turning.proofs.turn_triangles.Reads as turn_triangles

pub turn_triangles_determined :
    (κs : _) (a : _) (r r' : _) (s s' : _)
    → turn_triangles.Post κs a r s
    → turn_triangles.Post κs a r' s'
    → (s.1.1.1.1.1.1.0.now ≡ s'.1.1.1.1.1.1.0.now)
    × (s.1.1.1.1.1.1.1.0.now ≡ s'.1.1.1.1.1.1.1.0.now)
turn_triangles_determined κs a r r' s s' p q = (p.0 ∙ sym q.0, p.1 ∙ sym q.1)
