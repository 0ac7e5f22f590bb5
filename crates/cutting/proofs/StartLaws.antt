-- Where no first key from the place of a key on is that key, no edge starts at it.
-- Assumes nothing.
use Prim.Native.Nat.{ℕ, suc, ◌<◌, ◌≤◌}
use native.Mathlib.Omega.{arith}
use mathlib.Core.Path.{◌≡◌, refl, sym, ap, ◌∙◌}
use mathlib.Core.Logic.{⊎_elim}
use mathlib.Core.Bool.{Bool, false, cond, false≢true}
use mathlib.Core.List.Memᴰ
use mathlib.Core.List.{List, [], ◌∷◌}
use lib.Dec.{ltb}
use lib.ListN.{length, get_or, take, length-take}
use lib.Seq.{get_or-take}
use borrow.Author.Tests.{ltb-true, ltb-false, lt-ltb, eq-eqb}
use Rattle.lists.specs.Lists.{◌∈◌, Ordered}
use Rattle.lists.proofs.Bools.{cases}
use Rattle.lists.proofs.ListLaws.{in_map}
use Rattle.search.specs.Keys.{place_of}
use Rattle.edges.specs.Edges.{Edge}
use Rattle.groups.specs.CellEdges.{edges_in}
use Rattle.groups.proofs.NumberLaws.{firsts_taken}
use Rattle.cuts.specs.Numbers.{Numbered}
use Rattle.cuts.proofs.VertexLaws.{even, in_order}
use Rattle.cutting.specs.Steps.{starts_at}

-- a key of an ascending list stands at its place
stands : (k : ℕ) (ks : List ℕ) → Ordered ◌≤◌ ks → k ∈ ks → (place_of k ks < length ks) × (get_or ks (place_of k ks) 0 ≡ k)
unfolding place_of Ordered
stands k [] o m = absurd (Memᴰ.not-nil m)
stands k (l ∷ ks) o m =
    cases
    (λ (b : Bool).
    ltb l k ≡ b
    → (cond b (suc (place_of k ks)) 0 < suc (length ks)) × (get_or (l ∷ ks) (cond b (suc (place_of k ks)) 0) 0 ≡ k))
    (ltb l k)
    (λ t q.
    let low : l < k = ltb-true l k q in
    let r = stands k ks o.1 (⊎_elim (λ e. absurd (omega arith)) (λ n. n) (Memᴰ.cases_cons m)) in
    (omega (arith, r.0), r.1))
    (λ t q.
    let high : k ≤ l = ltb-false l k q in
    (omega arith, ⊎_elim (λ e. sym e) (λ n. let b = o.0 k n in omega arith) (Memᴰ.cases_cons m)))
    refl

module _ (first second : List ℕ) (n : ℕ) (h : Numbered first second n) (key place : ℕ) (p : place ≡ place_of key (take n first)) where
  pub no_start : starts_at first n place key ≡ false → (e : Edge) → e ∈ edges_in first second n → e.first ≡ key → ⊥
  unfolding starts_at
  no_start t e m q =
      let taken = firsts_taken first second n (even first second n h) in
      let i : key ∈ take n first = rw taken at (Memᴰ.cast (sym q) (in_map (λ (x : Edge). x.first) (edges_in first second n) m)) in
      let s = stands key (take n first) (in_order first second n h) i in
      let low : place < n = omega (arith, s.0, p, length-take n first) in
      let here : get_or first place 0 ≡ key = sym (get_or-take n first place 0 low) ∙ ap (λ (i : ℕ). get_or (take n first) i 0) p ∙ s.1 in
      false≢true (sym t ∙ rw (lt-ltb place n low, eq-eqb _ key here))
