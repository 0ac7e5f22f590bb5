-- The public contract settles its outcome: two that meet it are equal, in the answer and in every place of the lent lists.
-- Assumes nothing.
use mathlib.Core.Path.{◌≡◌, sym, ◌∙◌}
use Rattle.turned_mesh.proofs.extract_turned_mesh.Reads as extract_turned_mesh

pub extract_turned_mesh_determined :
    (κs : _) (a : _) (r r' : _) (s s' : _)
    → extract_turned_mesh.Post κs a r s
    → extract_turned_mesh.Post κs a r' s'
    → (r ≡ r')
    × (s.1.1.0.now ≡ s'.1.1.0.now)
    × (s.1.1.1.0.now ≡ s'.1.1.1.0.now)
    × (s.1.1.1.1.0.now ≡ s'.1.1.1.1.0.now)
    × (s.1.1.1.1.1.0.now ≡ s'.1.1.1.1.1.0.now)
    × (s.1.1.1.1.1.1.0.now ≡ s'.1.1.1.1.1.1.0.now)
    × (s.1.1.1.1.1.1.1.0.now ≡ s'.1.1.1.1.1.1.1.0.now)
    × (s.1.1.1.1.1.1.1.1.0.now ≡ s'.1.1.1.1.1.1.1.1.0.now)
    × (s.1.1.1.1.1.1.1.1.1.0.now ≡ s'.1.1.1.1.1.1.1.1.1.0.now)
    × (s.1.1.1.1.1.1.1.1.1.1.0.now ≡ s'.1.1.1.1.1.1.1.1.1.1.0.now)
    × (s.1.1.1.1.1.1.1.1.1.1.1.0.now ≡ s'.1.1.1.1.1.1.1.1.1.1.1.0.now)
    × (s.1.1.1.1.1.1.1.1.1.1.1.1.0.now ≡ s'.1.1.1.1.1.1.1.1.1.1.1.1.0.now)
extract_turned_mesh_determined κs a r r' s s' p q = (
  p.answer ∙ sym q.answer,
  p.first ∙ sym q.first,
  p.second ∙ sym q.second,
  p.px ∙ sym q.px,
  p.py ∙ sym q.py,
  p.pz ∙ sym q.pz,
  p.nx ∙ sym q.nx,
  p.ny ∙ sym q.ny,
  p.nz ∙ sym q.nz,
  p.t0 ∙ sym q.t0,
  p.t1 ∙ sym q.t1,
  p.t2 ∙ sym q.t2,
)
