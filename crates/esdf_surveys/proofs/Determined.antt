-- Every public contract settles its outcome: two that meet it are equal, in the answer and in every lent place.
-- Assumes nothing.
use mathlib.Core.Path.{◌≡◌, sym, ◌∙◌}
use Rattle.esdf_surveys.proofs.stats.Reads as stats
use Rattle.esdf_surveys.proofs.get_voxels_within_distance.Reads as get_voxels_within_distance

pub stats_determined : (κs : _) (a : _) (r r' : _) (s s' : _) → stats.Post κs a r s → stats.Post κs a r' s' → r ≡ r'
stats_determined κs a r r' s s' p q = p ∙ sym q

pub get_voxels_within_distance_determined :
    (κs : _) (a : _) (r r' : _) (s s' : _)
    → get_voxels_within_distance.Post κs a r s
    → get_voxels_within_distance.Post κs a r' s'
    → (r ≡ r') × (s.1.1.0.now ≡ s'.1.1.0.now) × (s.1.1.1.0.now ≡ s'.1.1.1.0.now)
get_voxels_within_distance_determined κs a r r' s s' p q = (p.0 ∙ sym q.0, p.1.0 ∙ sym q.1.0, p.1.1 ∙ sym q.1.1)
