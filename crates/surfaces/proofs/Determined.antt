-- Every public contract settles its outcome: two that meet it are equal, in the answer and in every lent place.
-- Assumes nothing.
use mathlib.Core.Path.{◌≡◌, sym, ◌∙◌}
use Rattle.surfaces.proofs.vertex_at.Reads as vertex_at
use Rattle.surfaces.proofs.surface_area.Reads as surface_area
use Rattle.surfaces.proofs.bounding_box.Reads as bounding_box
use Rattle.surfaces.proofs.mesh_stats.Reads as mesh_stats

pub vertex_at_determined : (κs : _) (a : _) (r r' : _) (s s' : _) → vertex_at.Post κs a r s → vertex_at.Post κs a r' s' → r ≡ r'
vertex_at_determined κs a r r' s s' p q = p ∙ sym q

pub surface_area_determined : (κs : _) (a : _) (r r' : _) (s s' : _) → surface_area.Post κs a r s → surface_area.Post κs a r' s' → r ≡ r'
surface_area_determined κs a r r' s s' p q = p ∙ sym q

pub bounding_box_determined : (κs : _) (a : _) (r r' : _) (s s' : _) → bounding_box.Post κs a r s → bounding_box.Post κs a r' s' → r ≡ r'
bounding_box_determined κs a r r' s s' p q = p ∙ sym q

pub mesh_stats_determined : (κs : _) (a : _) (r r' : _) (s s' : _) → mesh_stats.Post κs a r s → mesh_stats.Post κs a r' s' → r ≡ r'
mesh_stats_determined κs a r r' s s' p q = p ∙ sym q
