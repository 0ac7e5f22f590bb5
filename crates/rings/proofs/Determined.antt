-- Every public contract settles its outcome: two that meet it are equal.
-- Assumes nothing.
use mathlib.Core.Path.{◌≡◌, sym, ◌∙◌}
use Rattle.rings.proofs.are_opposed.Reads as are_opposed
use Rattle.rings.proofs.is_joint.Reads as is_joint

pub are_opposed_determined : (κs : _) (a : _) (r r' : _) (s s' : _) → are_opposed.Post κs a r s → are_opposed.Post κs a r' s' → r ≡ r'
are_opposed_determined κs a r r' s s' p q = p ∙ sym q

pub is_joint_determined : (κs : _) (a : _) (r r' : _) (s s' : _) → is_joint.Post κs a r s → is_joint.Post κs a r' s' → r ≡ r'
is_joint_determined κs a r r' s s' p q = p ∙ sym q
