-- Every public contract settles its outcome: two that meet it are equal, in the answer and in every lent place. Each is
-- one equation of an answer beside the table that is left, and its parts follow.
-- Assumes nothing.
use mathlib.Core.Path.{◌≡◌, sym, ap, ◌∙◌}
use mathlib.Core.List.{List}
use Prim.Native.Nat.{ℕ}
use lib.Ieee.{Float}
use Rattle.table.specs.Table.{table}
use Rattle.batching.specs.Batches.{Batched, BatchOutcome, batch_outcome}
use Rattle.batches.proofs.batch_update.Reads as batch_update

batch_parts :
    {a a' : Batched} {ks ks' : List ℕ} {ds ds' ws ws' : List Float} {n n' : ℕ}
    → batch_outcome a (table ks ds ws n) ≡ batch_outcome a' (table ks' ds' ws' n')
    → (a ≡ a') × (ks ≡ ks') × (ds ≡ ds') × (ws ≡ ws') × (n ≡ n')
batch_parts e = (
  ap (λ (o : BatchOutcome). o.answer) e,
  ap (λ (o : BatchOutcome). o.left.keys) e,
  ap (λ (o : BatchOutcome). o.left.distances) e,
  ap (λ (o : BatchOutcome). o.left.weights) e,
  ap (λ (o : BatchOutcome). o.left.count) e,
)

pub batch_update_determined :
    (κs : _) (a : _) (r r' : _) (s s' : _)
    → batch_update.Post κs a r s
    → batch_update.Post κs a r' s'
    → (r ≡ r')
    × (s.1.0.now.keys.now ≡ s'.1.0.now.keys.now)
    × (s.1.0.now.distances.now ≡ s'.1.0.now.distances.now)
    × (s.1.0.now.weights.now ≡ s'.1.0.now.weights.now)
    × (s.1.0.now.count ≡ s'.1.0.now.count)
    × (s.1.0.now.keys.ghost_name ≡ s'.1.0.now.keys.ghost_name)
    × (s.1.0.now.distances.ghost_name ≡ s'.1.0.now.distances.ghost_name)
    × (s.1.0.now.weights.ghost_name ≡ s'.1.0.now.weights.ghost_name)
batch_update_determined κs a r r' s s' p q =
    let e = batch_parts (p.0 ∙ sym q.0) in
    (e.0, e.1, e.2, e.3, e.4, p.1.0 ∙ sym q.1.0, p.1.1 ∙ sym q.1.1, p.1.2 ∙ sym q.1.2)
