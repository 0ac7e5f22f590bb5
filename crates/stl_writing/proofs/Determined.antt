-- Every public contract settles its outcome: two that meet it are equal, in the answer and in every lent place.
-- Assumes nothing.
use mathlib.Core.Path.{◌≡◌, sym, ◌∙◌}
use Rattle.stl_writing.proofs.export_mesh_stl.Reads as export_mesh_stl

pub export_mesh_stl_determined :
    (κs : _) (a : _) (r r' : _) (s s' : _)
    → export_mesh_stl.Post κs a r s
    → export_mesh_stl.Post κs a r' s'
    → (r ≡ r') × (s.1.1.0.now ≡ s'.1.1.0.now)
export_mesh_stl_determined κs a r r' s s' p q = (p.0 ∙ sym q.0, p.1 ∙ sym q.1)
