-- A search that ends near its start finds what the search of the whole list finds, where the keys ascend.
-- Assumes nothing.
use Rattle.std.specs.Prelude.{Some, None}
use Prim.Native.Nat.{ℕ, ◌+◌, ◌-◌, ◌≤◌, ◌<◌, zero-le}
use native.Mathlib.Omega.{arith}
use mathlib.Core.Path.{◌≡◌, refl, sym, ap, ◌∙◌}
use mathlib.Core.Bool.{Bool, true, cond, ◌&&◌, and-false}
use mathlib.Core.List.{List}
use lib.Dec.{ltb, leb}
use lib.ListN.{length, get_or, take}
use lib.Seq.{length-take-le, get_or-take}
use borrow.Author.Tests.{lt-ltb, le-ltb, ltb-true, le-leb, leb-true, lt-leb, eq-eqb, ne_eqb}
use Rattle.lists.specs.Lists.{Ordered}
use Rattle.lists.proofs.Bools.{and_first, and_second, cases}
use Rattle.search.specs.Keys.{ascending, place_of, find_by}
use Rattle.search.specs.Nearby.{nearer, end_above, stands_at, find_above, behind, start_near, place_near, find_near}
use Rattle.search.proofs.KeyLaws.{place_le, place_length, ascending_order, ordered_lt_place, ordered_reaches, lt_place, reaches, halved_place}

-- ---- where it ends

module _ (k : ℕ) (ks : List ℕ) (from step end : ℕ) where
  abbrev near : Bool
  near = ltb (from + step) (length ks) && leb k (get_or ks (from + step) 0)

  -- the place of k is not past it, and the list's end neither
  pub nearer_holds : place_of k ks ≤ end → end ≤ length ks → (place_of k ks ≤ nearer k ks from step end) × (nearer k ks from step end ≤ length ks)
  unfolding nearer
  nearer_holds p e =
      cases (λ (b : Bool). (place_of k ks ≤ cond b (from + step) end) × (cond b (from + step) end ≤ length ks)) near
      (λ t.
      let a : Bool = ltb (from + step) (length ks) in
      let b : Bool = leb k (get_or ks (from + step) 0) in
      let l : from + step < length ks = ltb-true _ _ (and_first a b t) in
      (place_le k ks (from + step) (leb-true _ _ (and_second a b t)) l, omega arith))
      (λ t. (p, e))

  -- the three ways of the code
  pub nearer_here : from + step < length ks → k ≤ get_or ks (from + step) 0 → from + step ≡ nearer k ks from step end
  unfolding nearer
  nearer_here l h = rw (lt-ltb _ _ l, le-leb _ _ h)

  pub nearer_below : get_or ks (from + step) 0 < k → end ≡ nearer k ks from step end
  unfolding nearer
  nearer_below h = rw (lt-leb _ _ h, and-false)

  pub nearer_past : length ks ≤ from + step → end ≡ nearer k ks from step end
  unfolding nearer
  nearer_past h = rw (le-ltb _ _ h)

pub above_holds : (k : ℕ) (ks : List ℕ) (from : ℕ) → (place_of k ks ≤ end_above k ks from) × (end_above k ks from ≤ length ks)
above_holds k ks from =
    let a = nearer_holds k ks from 4096 (length ks) (place_length k ks) (omega arith) in
    let b = nearer_holds k ks from 256 _ a.0 a.1 in
    nearer_holds k ks from 16 _ b.0 b.1

-- where one of them is not reached, and where it is: what the rest would have said does not count
module _ (k : ℕ) (ks : List ℕ) (from step r : ℕ) (e : r ≡ nearer k ks from step (length ks)) where
  pub nearer_found : r < length ks → (end : ℕ) → r ≡ nearer k ks from step end
  unfolding nearer
  nearer_found h end =
      cases (λ (b : Bool). r ≡ cond b (from + step) (length ks) → r ≡ cond b (from + step) end) (near k ks from step end)
      (λ t q. q) (λ t q. absurd (omega arith)) e

  pub nearer_not : length ks ≤ r → (end : ℕ) → end ≡ nearer k ks from step end
  unfolding nearer
  nearer_not h end =
      cases (λ (b : Bool). near k ks from step end ≡ b → r ≡ cond b (from + step) (length ks) → end ≡ cond b (from + step) end) (near k ks from step end)
      (λ t c q.
      let l : from + step < length ks = ltb-true _ _ (and_first (ltb (from + step) (length ks)) _ c) in
      let same : r ≡ from + step = q in
      absurd (omega arith))
      (λ t c q. refl) refl e

-- ---- what it finds

-- on ascending keys of which those before `from` are below k
pub find_above_lem : (k : ℕ) (ks : List ℕ) (from : ℕ) → ascending ks ≡ true → from ≤ place_of k ks → find_above k ks from ≡ find_by k ks
unfolding find_by stands_at
find_above_lem k ks from a h =
    let e = above_holds k ks from in
    ap (stands_at k ks) (reaches k ks a (length ks) from (end_above k ks from) h e.0 e.1 (omega (arith, e.1)) ∙ sym (halved_place k ks a))

-- the same of the first n of a list, from past a row whose key is below k
pub found_above_lem :
    (k : ℕ) (ks : List ℕ) (n row : ℕ)
    → n ≤ length ks
    → ascending (take n ks) ≡ true
    → row < n
    → get_or ks row 0 < k
    → find_above k (take n ks) (row + 1) ≡ find_by k (take n ks)
found_above_lem k ks n row f a h l =
    let long : row < length (take n ks) = rw (length-take-le n ks f) h in
    let below : get_or (take n ks) row 0 < k = rw (get_or-take n ks row 0 h) l in
    let p : row < place_of k (take n ks) = lt_place k (take n ks) row a below long in
    find_above_lem k (take n ks) (row + 1) a (omega arith)

-- what stands at a place of the list
module _ (k : ℕ) (ks : List ℕ) (p q : ℕ) (e : p ≡ q) where
  pub stands_here : p < length ks → get_or ks p 0 ≡ k → Some p ≡ stands_at k ks q
  unfolding stands_at
  stands_here h t = rw (← e, lt-ltb p (length ks) h, eq-eqb (get_or ks p 0) k t)

  pub stands_another : (get_or ks p 0 ≡ k → ⊥) → None ≡ stands_at k ks q
  unfolding stands_at
  stands_another t = rw (← e, ne_eqb (get_or ks p 0) k t, and-false)

  pub stands_past : length ks ≤ p → None ≡ stands_at k ks q
  unfolding stands_at
  stands_past h = rw (← e, le-ltb p (length ks) h)

-- ---- a search that is expected to end near a place

module _ (k : ℕ) (ks : List ℕ) (from step : ℕ) where
  abbrev below : Bool
  below = ltb step from && (leb (from - step) (length ks) && ltb (get_or ks (from - step - 1) 0) k)

  module _ (low : ℕ) where
    -- the ways of the code
    pub behind_here : step < from → from - step ≤ length ks → get_or ks (from - step - 1) 0 < k → from - step ≡ behind k ks from step low
    unfolding behind
    behind_here p l h = rw (lt-ltb _ _ p, le-leb _ _ l, lt-ltb _ _ h)

    pub behind_not_below : k ≤ get_or ks (from - step - 1) 0 → low ≡ behind k ks from step low
    unfolding behind
    behind_not_below h = rw (le-ltb _ _ h, and-false, and-false)

    pub behind_past : length ks < from - step → low ≡ behind k ks from step low
    unfolding behind
    behind_past h = rw (lt-leb _ _ h, and-false)

    pub behind_none : from ≤ step → low ≡ behind k ks from step low
    unfolding behind
    behind_none h = rw (le-ltb _ _ h)

    -- on keys in order it is not past the place of k, where `low` is not
    behind_low : Ordered ◌≤◌ ks → low ≤ place_of k ks → behind k ks from step low ≤ place_of k ks
    unfolding behind
    behind_low o h =
        cases (λ (b : Bool). cond b (from - step) low ≤ place_of k ks) below
        (λ t.
        let s = and_second (ltb step from) _ t in
        let p : step < from = ltb-true step from (and_first (ltb step from) _ t) in
        let l : from - step ≤ length ks = leb-true _ _ (and_first (leb (from - step) (length ks)) _ s) in
        let m = ordered_lt_place k ks (from - step - 1) o (ltb-true _ _ (and_second (leb (from - step) (length ks)) _ s)) (omega arith) in
        omega arith)
        (λ t. h)

  -- where one of them is not reached, and where it is
  module _ (r : ℕ) (e : r ≡ behind k ks from step 0) where
    pub behind_found : 0 < r → (low : ℕ) → r ≡ behind k ks from step low
    unfolding behind
    behind_found h low = cases (λ (b : Bool). r ≡ cond b (from - step) 0 → r ≡ cond b (from - step) low) below (λ t q. q) (λ t q. absurd (omega arith)) e

    pub behind_not : r ≤ 0 → (low : ℕ) → low ≡ behind k ks from step low
    unfolding behind
    behind_not h low =
        cases (λ (b : Bool). below ≡ b → r ≡ cond b (from - step) 0 → low ≡ cond b (from - step) low) below
        (λ t c q.
        let p : step < from = ltb-true step from (and_first (ltb step from) _ c) in
        let same : r ≡ from - step = q in
        absurd (omega arith))
        (λ t c q. refl) refl e

module _ (k : ℕ) (ks : List ℕ) (from : ℕ) where
  start_low : Ordered ◌≤◌ ks → start_near k ks from ≤ place_of k ks
  start_low o = behind_low k ks from 0 _ o (behind_low k ks from 16 _ o (behind_low k ks from 256 0 o zero-le))

  -- on keys in order it ends at the place of k
  pub near_place : Ordered ◌≤◌ ks → place_near k ks from ≡ place_of k ks
  near_place o =
      let e = above_holds k ks (start_near k ks from) in
      ordered_reaches k ks o (length ks) (start_near k ks from) (end_above k ks (start_near k ks from)) (start_low o) e.0 e.1 (omega (arith, e.1))

  -- on ascending keys it finds k
  pub find_near_lem : ascending ks ≡ true → find_near k ks from ≡ find_by k ks
  find_near_lem a = find_above_lem k ks (start_near k ks from) a (start_low (ascending_order ks a))
