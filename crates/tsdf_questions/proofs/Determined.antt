-- Every public contract settles its outcome: two that meet it are equal, in the answer and in every lent place.
-- Assumes nothing.
use mathlib.Core.Path.{◌≡◌, sym, ◌∙◌}
use Rattle.tsdf_questions.proofs.get_distance.Reads as get_distance
use Rattle.tsdf_questions.proofs.get_weight.Reads as get_weight
use Rattle.tsdf_questions.proofs.is_surface_voxel.Reads as is_surface_voxel

pub get_distance_determined : (κs : _) (a : _) (r r' : _) (s s' : _) → get_distance.Post κs a r s → get_distance.Post κs a r' s' → r ≡ r'
get_distance_determined κs a r r' s s' p q = p ∙ sym q

pub get_weight_determined : (κs : _) (a : _) (r r' : _) (s s' : _) → get_weight.Post κs a r s → get_weight.Post κs a r' s' → r ≡ r'
get_weight_determined κs a r r' s s' p q = p ∙ sym q

pub is_surface_voxel_determined : (κs : _) (a : _) (r r' : _) (s s' : _) → is_surface_voxel.Post κs a r s → is_surface_voxel.Post κs a r' s' → r ≡ r'
is_surface_voxel_determined κs a r r' s s' p q = p ∙ sym q
