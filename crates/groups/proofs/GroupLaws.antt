-- A cell's group: the numbers of its edges, ascending.
-- Assumes nothing.
use Prim.Native.Nat.{ℕ, zero, suc, ◌+◌, ◌<◌}
use native.Mathlib.Nat.{zero-lt-suc, zero-add, add-zero, suc-add, add-suc, le_of_suc-le-suc, not-suc-le-zero}
use native.Mathlib.Omega.{arith}
use mathlib.Core.Path.{◌≡◌, refl, sym, ap, ◌∙◌}
use mathlib.Core.Logic.{◌⊎◌, inl, inr, ⊎_elim}
use mathlib.Core.Bool.{Bool, true, false, cond, or-true}
use mathlib.Core.List.Memᴰ
use mathlib.Core.List.{List, [], ◌∷◌}
use lib.Dec.{eqb}
use lib.ListN.{length}
use borrow.Author.Tests.{eqb-true, eq-eqb}
use Rattle.lists.specs.Lists.{◌∈◌, Ordered}
use Rattle.lists.proofs.ListLaws.{front_in, in_front_lem, in_behind, front_ordered}
use Rattle.lists.proofs.Bools.{or_cases}
use Rattle.edges.specs.Edges.{Edge}
use Rattle.groups.specs.Groups.{touches, numbers_from, group_of, one, count_of, edge_at, EndsAt}

-- the test for an end
touches_ends : (cell : ℕ) (e : Edge) → touches cell e ≡ true → (e.first ≡ cell) ⊎ (e.second ≡ cell)
touches_ends cell e t =
    ⊎_elim (λ p. inl (eqb-true e.first cell p)) (λ q. inr (eqb-true e.second cell q)) (or_cases (eqb e.first cell) (eqb e.second cell) t)

ends_touches : (cell : ℕ) (e : Edge) → (e.first ≡ cell) ⊎ (e.second ≡ cell) → touches cell e ≡ true
ends_touches cell e (inl p) = rw (eq-eqb e.first cell p)
ends_touches cell e (inr q) = rw (eq-eqb e.second cell q) (or-true (eqb e.first cell))

module _ (cell : ℕ) where
  -- a number of the group is that of an edge that touches the cell
  numbers_in : (n : ℕ) (es : List Edge) (i : ℕ) → i ∈ numbers_from n cell es → (j : ℕ) × (i ≡ n + j) × (j < length es) × (touches cell (edge_at es j) ≡ true)
  unfolding numbers_from
  numbers_in n [] i m = absurd (Memᴰ.not-nil m)
  numbers_in n (e ∷ es) i m =
      ⊎_elim (λ p. (0, omega (arith, p.1), zero-lt-suc (length es), p.0))
      (λ t. let r = numbers_in (suc n) es i t in (suc r.0, omega (arith, r.1), omega (arith, r.2), r.3))
      (front_in (touches cell e) n (numbers_from (suc n) cell es) m)

  in_numbers : (n : ℕ) (es : List Edge) (j : ℕ) → j < length es → touches cell (edge_at es j) ≡ true → n + j ∈ numbers_from n cell es
  unfolding numbers_from
  in_numbers n [] j l t = absurd (not-suc-le-zero l)
  in_numbers n (e ∷ es) zero l t = in_front_lem (touches cell e) n (numbers_from (suc n) cell es) t (add-zero n)
  in_numbers n (e ∷ es) (suc j) l t =
      in_behind (touches cell e) n (numbers_from (suc n) cell es)
      (Memᴰ.cast (add-suc n j ∙ sym (suc-add n j)) (in_numbers (suc n) es j (le_of_suc-le-suc l) t))

  numbers_ordered : (n : ℕ) (es : List Edge) → Ordered ◌<◌ (numbers_from n cell es)
  unfolding numbers_from Ordered
  numbers_ordered n [] = tt
  numbers_ordered n (e ∷ es) =
      front_ordered ◌<◌ (touches cell e) n (numbers_from (suc n) cell es)
      (λ i m. let r = numbers_in (suc n) es i m in omega (arith, r.1)) (numbers_ordered (suc n) es)

  length_front : (b : Bool) (n : ℕ) (l : List ℕ) → length (cond b (n ∷ l) l) ≡ one b + length l
  length_front true n l = omega arith
  length_front false n l = omega arith

  -- how many edges have the cell as an end
  pub numbers_length : (n : ℕ) (es : List Edge) → length (numbers_from n cell es) ≡ count_of cell es
  unfolding numbers_from count_of
  numbers_length n [] = refl
  numbers_length n (e ∷ es) =
      length_front (touches cell e) n (numbers_from (suc n) cell es) ∙ ap (λ (k : ℕ). one (touches cell e) + k) (numbers_length (suc n) es)

-- the group of a cell holds the numbers of the edges that have it as an end, ascending
module _ (es : List Edge) (cell : ℕ) where
  pub group_in_lem : (i : ℕ) → i ∈ group_of es cell → EndsAt es i cell
  group_in_lem i m =
      let r = numbers_in cell 0 es i m in
      let same : r.0 ≡ i = omega (arith, r.1) in
      record { numbered = rw same at r.2; ends = touches_ends cell (edge_at es i) (rw same at r.3) }

  pub in_group : (i : ℕ) → EndsAt es i cell → i ∈ group_of es cell
  in_group i h = Memᴰ.cast (sym (zero-add i)) (in_numbers cell 0 es i h.numbered (ends_touches cell (edge_at es i) h.ends))

  pub group_ordered : Ordered ◌<◌ (group_of es cell)
  group_ordered = numbers_ordered cell 0 es
