-- Where a walk over ascending keys ends, and that ascending own keys have their places in order.
-- Assumes nothing.
use mathlib.Core.Path.{◌≡◌}
use mathlib.Core.Bool.{Bool, true, cond}
use mathlib.Core.List.{List, [], ◌∷◌}
use Prim.Native.Nat.{ℕ, suc, ◌+◌, ◌-◌, ◌<◌, ◌≤◌, zero-le, suc-le-suc}
use native.Mathlib.Nat.{le_refl, le_of_lt}
use native.Mathlib.Omega.{arith}
use borrow.Author.Tests.{lt-ltb, ltb-true, ltb-false, ne_eqb}
use lib.Dec.{ltb}
use lib.ListN.{length, get_or, take}
use lib.Seq.{length-take-le, get_or-take}
use Rattle.lists.proofs.Bools.{cases}
use Rattle.lists.proofs.ListLaws.{ordered_at}
use Rattle.search.specs.Keys.{ascending, place_of}
use Rattle.search.proofs.KeyLaws.{ascending_keys, lt_place, place_le, place_length, halved_place}
use Rattle.gathering.specs.Steps.{first_place}

module _ (k : ℕ) (ks : List ℕ) (n : ℕ) (g : n ≤ length ks) (a : ascending (take n ks) ≡ true) where
  -- a key below k at p: the place is past it
  pub goes : (p : ℕ) → p < n → get_or ks p 0 < k → p < place_of k (take n ks)
  goes p h l = lt_place k (take n ks) p a (rw (get_or-take n ks p 0 h) l) (rw (length-take-le n ks g) h)

  -- one that is not: it is there or before it
  pub not_past : (p : ℕ) → p < n → k ≤ get_or ks p 0 → place_of k (take n ks) ≤ p
  not_past p h l = place_le k (take n ks) p (rw (get_or-take n ks p 0 h) l) (rw (length-take-le n ks g) h)

  pub stops : (p : ℕ) → p < n → k ≤ get_or ks p 0 → p ≤ place_of k (take n ks) → p ≡ place_of k (take n ks)
  stops p h l q = omega (arith, not_past p h l)

  -- the place is among the keys or behind them
  pub place_within : place_of k (take n ks) ≤ n
  place_within = omega (arith, place_length k (take n ks), length-take-le n ks g)

  pub ends : (p : ℕ) → n ≤ p → p ≤ place_of k (take n ks) → p ≡ place_of k (take n ks)
  ends p h q = omega (arith, place_within)

  -- q is the smaller of k's place and j; a key further, counted where it is below k, it is so again
  counts_below : (j q x : ℕ) → j < n → q ≡ place_of k (take n ks) - (place_of k (take n ks) - j) → x ≡ cond (ltb (get_or ks j 0) k) 1 0
      → q + x ≡ place_of k (take n ks) - (place_of k (take n ks) - suc j)
  counts_below j q x h e f =
      cases (λ (b : Bool). x ≡ cond b 1 0 → q + x ≡ place_of k (take n ks) - (place_of k (take n ks) - suc j)) (ltb (get_or ks j 0) k)
      (λ t g. omega (arith, g, e, goes j h (ltb-true (get_or ks j 0) k t)))
      (λ t g. omega (arith, g, e, not_past j h (ltb-false (get_or ks j 0) k t)))
      f

  -- the place is among four keys: it is behind those of them that are below k
  pub of_four : (p x y z : ℕ) → p ≤ place_of k (take n ks) → place_of k (take n ks) ≤ p + 3 → p + 3 < n
      → x ≡ cond (ltb (get_or ks p 0) k) 1 0
      → y ≡ cond (ltb (get_or ks (p + 1) 0) k) 1 0
      → z ≡ cond (ltb (get_or ks (p + 2) 0) k) 1 0
      → p + x + y + z ≡ place_of k (take n ks)
  of_four p x y z low high h ex ey ez =
      let one = counts_below p p x (omega arith) (omega (arith, low)) ex in
      let two = counts_below (p + 1) (p + x) y (omega arith) (omega (arith, one)) ey in
      let three = counts_below (p + 2) (p + x + y) z (omega arith) (omega (arith, two)) ez in
      omega (arith, three, high)

-- ---- own keys

-- a larger key has no earlier place
place_order : (k m : ℕ) (ks : List ℕ) → k ≤ m → place_of k ks ≤ place_of m ks
unfolding place_of
place_order k m [] h = zero-le
place_order k m (l ∷ ks) h =
    cases (λ (b : Bool). cond b (suc (place_of k ks)) 0 ≤ place_of m (l ∷ ks)) (ltb l k)
    (λ e. rw (lt-ltb l m (omega (arith, ltb-true l k e, h))) (suc-le-suc (place_order k m ks h)))
    (λ e. zero-le)

module _ (ks oks : List ℕ) (own : ℕ) (g : own ≤ length oks) (up : ascending (take own oks) ≡ true) where
  -- from the place of an own key the next one is looked for
  pub next_start : (i p : ℕ) → p ≡ place_of (get_or oks i 0) ks → i + 1 < own → p ≤ place_of (get_or oks (i + 1) 0) ks
  next_start i p e h =
      let b = ordered_at ◌<◌ (take own oks) 0 (ascending_keys (take own oks) up) i (i + 1) (omega arith) (rw (length-take-le own oks g) h) in
      rw e (place_order (get_or oks i 0) (get_or oks (i + 1) 0) ks
      (le_of_lt (rw (get_or-take own oks i 0 (omega arith), get_or-take own oks (i + 1) 0 h) at b)))

  -- the first one by halves
  pub first_start : ascending ks ≡ true → 0 < own → first_place ks oks own ≤ place_of (get_or oks 0 0) ks
  first_start a h = rw (ne_eqb own 0 (λ e. omega (arith, h, e)), halved_place (get_or oks 0 0) ks a) (le_refl _)
