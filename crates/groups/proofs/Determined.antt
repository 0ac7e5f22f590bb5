-- Every public contract settles its outcome: two that meet it are equal, in the answer and in every lent place.
-- Assumes nothing.
use mathlib.Core.Path.{◌≡◌, sym, ◌∙◌}
use Rattle.groups.proofs.cell_span.Reads as cell_span
use Rattle.groups.proofs.cell_edges.Reads as cell_edges
use Rattle.groups.proofs.number_between.Reads as number_between
use Rattle.groups.proofs.near_group.Reads as near_group

pub cell_span_determined : (κs : _) (a : _) (r r' : _) (s s' : _) → cell_span.Post κs a r s → cell_span.Post κs a r' s' → r ≡ r'
cell_span_determined κs a r r' s s' p q = p ∙ sym q

pub cell_edges_determined : (κs : _) (a : _) (r r' : _) (s s' : _) → cell_edges.Post κs a r s → cell_edges.Post κs a r' s' → r.now ≡ r'.now
cell_edges_determined κs a r r' s s' p q = p ∙ sym q

pub near_group_determined : (κs : _) (a : _) (r r' : _) (s s' : _) → near_group.Post κs a r s → near_group.Post κs a r' s' → r ≡ r'
near_group_determined κs a r r' s s' p q = p ∙ sym q

pub number_between_determined : (κs : _) (a : _) (r r' : _) (s s' : _) → number_between.Post κs a r s → number_between.Post κs a r' s' → r ≡ r'
number_between_determined κs a r r' s s' p q = p.0 ∙ sym q.0
