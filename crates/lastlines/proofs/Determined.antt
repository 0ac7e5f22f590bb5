-- Both public contracts settle their outcome: two that meet one are equal, in the answer and in every lent place.
-- Assumes nothing.
use mathlib.Core.Path.{◌≡◌, sym, ap, ◌∙◌}
use mathlib.Core.List.{List}
use Prim.Native.Nat.{ℕ}
use lib.Ieee.{Float}
use Rattle.table.specs.Table.{Table, table}
use Rattle.lastlines.proofs.take_line.Reads as take_line
use Rattle.lastlines.proofs.take_flagged_line.Reads as take_flagged_line

parts : {ks ks' : List ℕ} {ds ds' ws ws' : List Float} {n n' : ℕ} → table ks ds ws n ≡ table ks' ds' ws' n' → (ks ≡ ks') × (ds ≡ ds') × (ws ≡ ws') × (n ≡ n')
parts e = (ap (λ (t : Table). t.keys) e, ap (λ (t : Table). t.distances) e, ap (λ (t : Table). t.weights) e, ap (λ (t : Table). t.count) e)

pub take_line_determined : (κs : _) (a : _) (r r' : _) (s s' : _) → take_line.Post κs a r s → take_line.Post κs a r' s' →
    (r ≡ r')
    × ((s.1.1.1.0.now ≡ s'.1.1.1.0.now)
    × (s.1.1.1.1.0.now ≡ s'.1.1.1.1.0.now)
    × (s.1.1.1.1.1.0.now ≡ s'.1.1.1.1.1.0.now)
    × (s.1.1.1.1.1.1.0.now ≡ s'.1.1.1.1.1.1.0.now))
    × (s.1.1.1.1.1.1.1.0.now ≡ s'.1.1.1.1.1.1.1.0.now)
take_line_determined κs a r r' s s' p q = (p.answer ∙ sym q.answer, parts (p.left ∙ sym q.left), p.text ∙ sym q.text)

pub take_flagged_line_determined : (κs : _) (a : _) (r r' : _) (s s' : _) → take_flagged_line.Post κs a r s → take_flagged_line.Post κs a r' s' →
    (r ≡ r')
    × ((s.1.1.1.1.0.now ≡ s'.1.1.1.1.0.now)
    × (s.1.1.1.1.1.0.now ≡ s'.1.1.1.1.1.0.now)
    × (s.1.1.1.1.1.1.0.now ≡ s'.1.1.1.1.1.1.0.now)
    × (s.1.1.1.1.1.1.1.0.now ≡ s'.1.1.1.1.1.1.1.0.now))
    × (s.1.1.1.1.1.1.1.1.0.now ≡ s'.1.1.1.1.1.1.1.1.0.now)
take_flagged_line_determined κs a r r' s s' p q = (p.0 ∙ sym q.0, parts (p.1.left ∙ sym q.1.left), p.1.text ∙ sym q.1.text)
