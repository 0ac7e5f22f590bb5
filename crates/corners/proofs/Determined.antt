-- Every public contract settles its outcome: two that meet it are equal, in the answer and in every lent place.
-- Assumes nothing.
use mathlib.Core.Path.{◌≡◌, sym, ◌∙◌}
use Rattle.corners.proofs.Threes.is_ok.Reads as is_ok
use Rattle.corners.proofs.set_ok.Reads as set_ok
use Rattle.corners.proofs.vertices_ok.Reads as vertices_ok
use Rattle.corners.proofs.triangles_ok.Reads as triangles_ok

pub set_ok_determined : (κs : _) (a : _) (r r' : _) (s s' : _) → set_ok.Post κs a r s → set_ok.Post κs a r' s' → r ≡ r'
set_ok_determined κs a r r' s s' p q = p ∙ sym q

pub vertices_ok_determined : (κs : _) (a : _) (r r' : _) (s s' : _) → vertices_ok.Post κs a r s → vertices_ok.Post κs a r' s' → r ≡ r'
vertices_ok_determined κs a r r' s s' p q = p ∙ sym q

pub triangles_ok_determined : (κs : _) (a : _) (r r' : _) (s s' : _) → triangles_ok.Post κs a r s → triangles_ok.Post κs a r' s' → r ≡ r'
triangles_ok_determined κs a r r' s s' p q = p ∙ sym q

pub is_ok_determined : (g l : _) (κs : _) (a : _) (r r' : _) (s s' : _) → is_ok.Post g l κs a r s → is_ok.Post g l κs a r' s' → r ≡ r'
is_ok_determined g l κs a r r' s s' p q = p ∙ sym q
