-- Every public contract settles its outcome: two that meet it are equal, in the answer and in every lent place.
-- Assumes nothing.
use Rattle.std.specs.Prelude.{Result}
use Prim.Native.Nat.{ℕ}
use mathlib.Core.Path.{◌≡◌, sym, ap, ◌∙◌}
use mathlib.Core.List.{List}
use Rattle.lists.specs.Listing.{held_for}
use Rattle.edges.proofs.list_tested.Reads as list_tested
use Rattle.edges.proofs.get_zero_crossing_edges.Reads as get_zero_crossing_edges
use Rattle.refusals.specs.declared.Refusal.{Refusal}

held_same : (r r' : Result ℕ Refusal) (room : ℕ) (xs : List ℕ) → r ≡ r' → held_for 0 r room xs ≡ held_for 0 r' room xs
held_same r r' room xs e = ap (λ (x : Result ℕ Refusal). held_for 0 x room xs) e

pub list_tested_determined : (κs : _) (a : _) (r r' : _) (s s' : _)
    → list_tested.Post κs a r s
    → list_tested.Post κs a r' s'
    → (r ≡ r')
    × (s.1.1.1.0.now ≡ s'.1.1.1.0.now)
    × (s.1.1.1.1.0.now ≡ s'.1.1.1.1.0.now)
list_tested_determined κs a r r' s s' p q =
    let e = p.0 ∙ sym q.0 in
    (e, p.1.0 ∙ held_same r r' _ _ e ∙ sym q.1.0, p.1.1 ∙ held_same r r' _ _ e ∙ sym q.1.1)

pub get_zero_crossing_edges_determined : (κs : _) (a : _) (r r' : _) (s s' : _)
    → get_zero_crossing_edges.Post κs a r s
    → get_zero_crossing_edges.Post κs a r' s'
    → (r ≡ r')
    × (s.1.1.0.now ≡ s'.1.1.0.now)
    × (s.1.1.1.0.now ≡ s'.1.1.1.0.now)
get_zero_crossing_edges_determined κs a r r' s s' p q = (p.0 ∙ sym q.0, p.1.0 ∙ sym q.1.0, p.1.1 ∙ sym q.1.1)
