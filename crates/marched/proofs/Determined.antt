-- Every public contract settles its outcome: two that meet it are equal, in the answer and in every lent place.
-- Assumes nothing.
use mathlib.Core.Path.{◌≡◌, sym, ◌∙◌}
use Rattle.marched.proofs.pair_ok.Reads as pair_ok_call
use Rattle.marched.proofs.check.Reads as check
use Rattle.marched.proofs.check_key.Reads as check_key
use Rattle.marched.proofs.check_free.Reads as check_free
use Rattle.marched.proofs.check_list.Reads as check_list
use Rattle.marched.proofs.stored_at.Reads as stored_at_call

pub pair_ok_determined : (κs : _) (a : _) (r r' : _) (s s' : _) → pair_ok_call.Post κs a r s → pair_ok_call.Post κs a r' s' → r ≡ r'
pair_ok_determined κs a r r' s s' p q = p ∙ sym q

pub check_determined : (κs : _) (a : _) (r r' : _) (s s' : _) → check.Post κs a r s → check.Post κs a r' s' → r ≡ r'
check_determined κs a r r' s s' p q = p ∙ sym q

pub check_key_determined : (κs : _) (a : _) (r r' : _) (s s' : _) → check_key.Post κs a r s → check_key.Post κs a r' s' → r ≡ r'
check_key_determined κs a r r' s s' p q = p ∙ sym q

pub check_free_determined : (κs : _) (a : _) (r r' : _) (s s' : _) → check_free.Post κs a r s → check_free.Post κs a r' s' → r ≡ r'
check_free_determined κs a r r' s s' p q = p ∙ sym q

pub check_list_determined : (κs : _) (a : _) (r r' : _) (s s' : _) → check_list.Post κs a r s → check_list.Post κs a r' s' → r ≡ r'
check_list_determined κs a r r' s s' p q = p ∙ sym q

pub stored_at_determined : (κs : _) (a : _) (r r' : _) (s s' : _) → stored_at_call.Post κs a r s → stored_at_call.Post κs a r' s' → r ≡ r'
stored_at_determined κs a r r' s s' p q = p ∙ sym q
