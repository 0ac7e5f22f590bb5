-- Every public contract settles its outcome: two that meet it are equal, in the answer and in every lent place.
-- Assumes nothing.
use mathlib.Core.Path.{◌≡◌, sym, ◌∙◌}
use Rattle.tsdf_surveys.proofs.get_surface_voxels.Reads as get_surface_voxels
use Rattle.tsdf_surveys.proofs.stats.Reads as stats

pub get_surface_voxels_determined :
    (κs : _) (a : _) (r r' : _) (s s' : _)
    → get_surface_voxels.Post κs a r s
    → get_surface_voxels.Post κs a r' s'
    → (r ≡ r') × (s.1.1.1.0.now ≡ s'.1.1.1.0.now)
get_surface_voxels_determined κs a r r' s s' p q = (p.0 ∙ sym q.0, p.1 ∙ sym q.1)

pub stats_determined : (κs : _) (a : _) (r r' : _) (s s' : _) → stats.Post κs a r s → stats.Post κs a r' s' → r ≡ r'
stats_determined κs a r r' s s' p q = p ∙ sym q
