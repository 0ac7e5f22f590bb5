-- Every public contract settles its outcome: two that meet it are equal, in the answer and in every lent place.
-- Assumes nothing.
use mathlib.Core.Path.{◌≡◌, sym, ◌∙◌}
use Rattle.lists.proofs.room_for.Reads as room_for_call
use Rattle.lists.proofs.count_of.Reads as count_of_call
use Rattle.lists.proofs.kept.Reads as kept
use Rattle.lists.proofs.clear_from.Reads as clear_from
use Rattle.lists.proofs.clear.Reads as clear
use Rattle.lists.proofs.put.Reads as put
use Rattle.lists.proofs.insert.Reads as insert
use Rattle.lists.proofs.drop_first.Reads as drop_first

pub room_for_determined : (κs : _) (a : _) (r r' : _) (s s' : _) → room_for_call.Post κs a r s → room_for_call.Post κs a r' s' → r ≡ r'
room_for_determined κs a r r' s s' p q = p ∙ sym q

pub count_of_determined : (κs : _) (a : _) (r r' : _) (s s' : _) → count_of_call.Post κs a r s → count_of_call.Post κs a r' s' → r ≡ r'
count_of_determined κs a r r' s s' p q = p ∙ sym q

pub kept_determined : (g l c d m : _) (κs : _) (a : _) (r r' : _) (s s' : _) → kept.Post g l c d m κs a r s → kept.Post g l c d m κs a r' s' → r ≡ r'
kept_determined g l c d m κs a r r' s s' p q = p ∙ sym q

pub clear_from_determined : (g l c d m : _) (κs : _) (a : _) (r r' : _) (s s' : _) → clear_from.Post g l c d m κs a r s → clear_from.Post g l c d m κs a r' s' → s.0.now ≡ s'.0.now
clear_from_determined g l c d m κs a r r' s s' p q = p ∙ sym q

pub clear_determined : (g l c d m : _) (κs : _) (a : _) (r r' : _) (s s' : _) → clear.Post g l c d m κs a r s → clear.Post g l c d m κs a r' s' → s.0.now ≡ s'.0.now
clear_determined g l c d m κs a r r' s s' p q = p ∙ sym q

pub put_determined : (g l c d m : _) (κs : _) (a : _) (r r' : _) (s s' : _) → put.Post g l c d m κs a r s → put.Post g l c d m κs a r' s' → s.0.now ≡ s'.0.now
put_determined g l c d m κs a r r' s s' p q = p ∙ sym q

pub insert_determined : (g l c d m : _) (κs : _) (a : _) (r r' : _) (s s' : _) → insert.Post g l c d m κs a r s → insert.Post g l c d m κs a r' s' → s.0.now ≡ s'.0.now
insert_determined g l c d m κs a r r' s s' p q = p ∙ sym q

pub drop_first_determined : (g l c d m : _) (κs : _) (a : _) (r r' : _) (s s' : _) → drop_first.Post g l c d m κs a r s → drop_first.Post g l c d m κs a r' s' → s.0.now ≡ s'.0.now
drop_first_determined g l c d m κs a r r' s s' p q = p ∙ sym q
