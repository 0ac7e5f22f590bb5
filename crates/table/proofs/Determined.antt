-- Every public contract settles its outcome: two that meet it are equal, in the answer and in every lent place.
-- Assumes nothing.
use mathlib.Core.Path.{◌≡◌, sym, ◌∙◌}
use Rattle.table.proofs.settings_of.Reads as settings_of
use Rattle.table.proofs.Settings.new.Reads as new
use Rattle.table.proofs.settings_ok.Reads as settings_ok
use Rattle.table.proofs.lengths_ok.Reads as lengths_ok
use Rattle.table.proofs.check_with.Reads as check_with
use Rattle.table.proofs.check_table.Reads as check_table
use Rattle.table.proofs.check_threshold.Reads as check_threshold

pub settings_of_determined : (κs : _) (a : _) (r r' : _) (s s' : _) → settings_of.Post κs a r s → settings_of.Post κs a r' s' → r ≡ r'
settings_of_determined κs a r r' s s' p q = p ∙ sym q

pub new_determined : (κs : _) (a : _) (r r' : _) (s s' : _) → new.Post κs a r s → new.Post κs a r' s' → r ≡ r'
new_determined κs a r r' s s' p q = p ∙ sym q

pub settings_ok_determined : (κs : _) (a : _) (r r' : _) (s s' : _) → settings_ok.Post κs a r s → settings_ok.Post κs a r' s' → r ≡ r'
settings_ok_determined κs a r r' s s' p q = p ∙ sym q

pub lengths_ok_determined : (κs : _) (a : _) (r r' : _) (s s' : _) → lengths_ok.Post κs a r s → lengths_ok.Post κs a r' s' → r ≡ r'
lengths_ok_determined κs a r r' s s' p q = p ∙ sym q

pub check_with_determined : (κs : _) (a : _) (r r' : _) (s s' : _) → check_with.Post κs a r s → check_with.Post κs a r' s' → r ≡ r'
check_with_determined κs a r r' s s' p q = p ∙ sym q

pub check_threshold_determined : (κs : _) (a : _) (r r' : _) (s s' : _) → check_threshold.Post κs a r s → check_threshold.Post κs a r' s' → r ≡ r'
check_threshold_determined κs a r r' s s' p q = p ∙ sym q

pub check_table_determined : (κs : _) (a : _) (r r' : _) (s s' : _) → check_table.Post κs a r s → check_table.Post κs a r' s' → r ≡ r'
check_table_determined κs a r r' s s' p q = p ∙ sym q
