-- Every public contract settles its outcome: two that meet it are equal, in the answer and in every lent place.
-- Assumes nothing.
use mathlib.Core.Path.{◌≡◌, sym, ◌∙◌}
use Rattle.bcc_utils.proofs.is_valid_bcc.Reads as is_valid_bcc
use Rattle.bcc_utils.proofs.snap_to_nearest_bcc.Reads as snap_to_nearest_bcc
use Rattle.bcc_utils.proofs.physical_to_bcc_voxel.Reads as physical_to_bcc_voxel
use Rattle.bcc_utils.proofs.metres_of.Reads as metres_of

pub is_valid_bcc_determined : (κs : _) (a : _) (r r' : _) (s s' : _) → is_valid_bcc.Post κs a r s → is_valid_bcc.Post κs a r' s' → r ≡ r'
is_valid_bcc_determined κs a r r' s s' p q = p ∙ sym q

pub snap_to_nearest_bcc_determined : (κs : _) (a : _) (r r' : _) (s s' : _) → snap_to_nearest_bcc.Post κs a r s → snap_to_nearest_bcc.Post κs a r' s' → r ≡ r'
snap_to_nearest_bcc_determined κs a r r' s s' p q = p ∙ sym q

pub physical_to_bcc_voxel_determined : (κs : _) (a : _) (r r' : _) (s s' : _)
    → physical_to_bcc_voxel.Post κs a r s
    → physical_to_bcc_voxel.Post κs a r' s'
    → r ≡ r'
physical_to_bcc_voxel_determined κs a r r' s s' p q = p ∙ sym q

pub metres_of_determined : (κs : _) (a : _) (r r' : _) (s s' : _) → metres_of.Post κs a r s → metres_of.Post κs a r' s' → r ≡ r'
metres_of_determined κs a r r' s s' p q = p ∙ sym q
