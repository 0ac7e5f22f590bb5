-- Ascending keys, and the search by halves.
-- Assumes nothing.
use Rattle.std.specs.Prelude.{Some, None, Option}
use Rattle.std.specs.List.{IsAllAdjacentAnswer}
use mathlib.Core.Path.{◌≡◌, refl, sym, ap, subst, ◌∙◌}
use mathlib.Core.Bool.{Bool, true, false, cond, ◌&&◌, ◌||◌, and-false}
use mathlib.Core.List.Memᴰ
use mathlib.Core.List.{List, [], ◌∷◌}
use mathlib.Core.Logic.{⊎_elim}
use Prim.Native.Nat.{ℕ, zero, suc, ◌+◌, ◌-◌, ◌/◌, ◌<◌, ◌≤◌, min, zero-le, suc-le-suc}
use native.Mathlib.Nat.{not-suc-le-zero, le_of_suc-le-suc, le_of_lt, lt_trans, zero-min, min-zero, suc-min-suc}
use native.Mathlib.Numerals.{add-one}
use native.Mathlib.Omega.{arith}
use borrow.Author.Tests.{lt-ltb, le-ltb, ltb-true, ltb-false, ne_eqb, eq-eqb, eqb-true, eqb-false}
use lib.Dec.{ltb, eqb, leb-suc-suc}
use lib.ListN.{length, get_or, take, length-take}
use lib.Seq.{get_or-take}
use Rattle.search.specs.Keys.{member, rises_from, ascending, place_of, halving, halved, find, find_by, next}
use Rattle.lists.specs.Lists.{◌∈◌, Ordered}
use Rattle.lists.proofs.Bools.{and_first, and_second, cases}
use Rattle.lists.proofs.ListLaws.{at_in, ordered_weaken}

-- the first n of a list are as many of them as there are
pub take_least : (n : ℕ) (ks : List ℕ) → take (min n (length ks)) ks ≡ take n ks
take_least zero ks = rw (zero-min (length ks))
take_least (suc n) [] = rw (min-zero (suc n))
take_least (suc n) (k ∷ ks) = rw (suc-min-suc n (length ks)) (ap {B = List ℕ} (λ l. k ∷ l) (take_least n ks))

-- ---- the check of the order, pair by pair

all_rise : (ks : List ℕ) → ((i : ℕ) → i + 1 < length ks → ltb (get_or ks i 0) (get_or ks (i + 1) 0) ≡ true) → ascending ks ≡ true
unfolding ascending rises_from
all_rise [] h = refl
all_rise (k ∷ []) h = refl
all_rise (k ∷ (l ∷ ks)) h = rw (h 0 (omega arith)) (all_rise (l ∷ ks) (λ i m. rw add-one (rw add-one at (h (suc i) (omega arith)))))

one_falls : (ks : List ℕ) (i : ℕ) → i + 1 < length ks → ltb (get_or ks i 0) (get_or ks (i + 1) 0) ≡ false → ascending ks ≡ false
unfolding ascending rises_from
one_falls [] i h e = absurd (omega arith)
one_falls (k ∷ []) i h e = absurd (omega arith)
one_falls (k ∷ (l ∷ ks)) zero h e = rw e
one_falls (k ∷ (l ∷ ks)) (suc i) h e = rw (one_falls (l ∷ ks) i (omega arith) (rw add-one (rw add-one at e)), and-false)

-- what `is_sorted_by` answers
pub sorted_answer : (ks : List ℕ) (r : Bool) → IsAllAdjacentAnswer (λ x y b. b ≡ ltb x y) ks r → r ≡ ascending ks
sorted_answer ks true h = sym (all_rise ks (λ i m. sym (h i 0 m)))
sorted_answer ks false h = sym (one_falls ks h.0 h.1 (sym (h.2 0)))

-- ---- what ascending keys are

-- the keys after the first ascend too
pub tail_ascends : (k : ℕ) (ks : List ℕ) → rises_from k ks ≡ true → ascending ks ≡ true
unfolding ascending rises_from
tail_ascends k [] h = refl
tail_ascends k (l ∷ ks) h = and_second (ltb k l) (rises_from l ks) h

-- the first is below every other
pub first_below : (k : ℕ) (ks : List ℕ) (i : ℕ) → rises_from k ks ≡ true → i < length ks → k < get_or ks i 0
unfolding rises_from
first_below k [] i h g = absurd (not-suc-le-zero g)
first_below k (l ∷ ks) zero h g = ltb-true k l (and_first (ltb k l) (rises_from l ks) h)
first_below k (l ∷ ks) (suc i) h g =
    lt_trans (ltb-true k l (and_first (ltb k l) (rises_from l ks) h))
    (first_below l ks i (and_second (ltb k l) (rises_from l ks) h) (le_of_suc-le-suc g))

-- keys that rise from k are above it, and ordered
rise_ordered : (k : ℕ) (ls : List ℕ) → rises_from k ls ≡ true → ((l : ℕ) → l ∈ ls → k < l) × Ordered ◌<◌ ls
unfolding Ordered rises_from
rise_ordered k [] e = (λ l m. absurd (Memᴰ.not-nil m), tt)
rise_ordered k (l ∷ ls) e =
    let first : k < l = ltb-true k l (and_first (ltb k l) (rises_from l ls) e) in
    let rest = rise_ordered l ls (and_second (ltb k l) (rises_from l ls) e) in
    (λ x m. ⊎_elim (λ q. omega arith) (λ t. let h = rest.0 x t in omega arith) (Memᴰ.cases_cons m), rest)

-- the test for ascending keys says that every earlier key is below every later one
pub ascending_keys : (ks : List ℕ) → ascending ks ≡ true → Ordered ◌<◌ ks
unfolding ascending Ordered
ascending_keys [] e = tt
ascending_keys (k ∷ ks) e = rise_ordered k ks e

-- ---- place_of

-- a key at or past the place of k is not below k
pub place_le : (k : ℕ) (ks : List ℕ) (i : ℕ) → k ≤ get_or ks i 0 → i < length ks → place_of k ks ≤ i
unfolding place_of
place_le k [] i h g = absurd (not-suc-le-zero g)
place_le k (l ∷ ks) zero h g = rw (le-ltb l k h) zero-le
place_le k (l ∷ ks) (suc i) h g =
    cases (λ (b : Bool). cond b (suc (place_of k ks)) 0 ≤ suc i) (ltb l k)
    (λ e. suc-le-suc (place_le k ks i h (le_of_suc-le-suc g)))
    (λ e. zero-le)

-- ascending keys are in order
pub ascending_order : (ks : List ℕ) → ascending ks ≡ true → Ordered ◌≤◌ ks
ascending_order ks a = ordered_weaken ◌<◌ ◌≤◌ ks (λ x y m n l. le_of_lt l) (ascending_keys ks a)

-- on keys in order, equal ones too, a key below k stands before the place of k
pub ordered_lt_place : (k : ℕ) (ks : List ℕ) (i : ℕ) → Ordered ◌≤◌ ks → get_or ks i 0 < k → i < length ks → i < place_of k ks
unfolding place_of Ordered
ordered_lt_place k [] i o h g = absurd (not-suc-le-zero g)
ordered_lt_place k (l ∷ ks) zero o h g = rw (lt-ltb l k h) (suc-le-suc zero-le)
ordered_lt_place k (l ∷ ks) (suc i) o h g =
    let b = o.0 (get_or ks i 0) (at_in ks 0 i (le_of_suc-le-suc g)) in
    rw (lt-ltb l k (omega arith)) (suc-le-suc (ordered_lt_place k ks i o.1 h (le_of_suc-le-suc g)))

pub lt_place : (k : ℕ) (ks : List ℕ) (i : ℕ) → ascending ks ≡ true → get_or ks i 0 < k → i < length ks → i < place_of k ks
lt_place k ks i a h g = ordered_lt_place k ks i (ascending_order ks a) h g

pub place_length : (k : ℕ) (ks : List ℕ) → place_of k ks ≤ length ks
unfolding place_of
place_length k [] = zero-le
place_length k (l ∷ ks) =
    cases (λ (b : Bool). cond b (suc (place_of k ks)) 0 ≤ suc (length ks)) (ltb l k)
    (λ e. suc-le-suc (place_length k ks))
    (λ e. zero-le)

-- ---- the search by halves

-- the place in the middle
abbrev pub mid : ℕ → ℕ → ℕ
mid lo hi = lo + (hi - lo) / 2

module _ (k : ℕ) (ks : List ℕ) where
  -- one step
  abbrev pub halfway : ℕ → ℕ → ℕ → ℕ
  halfway f lo hi = cond (ltb (get_or ks (mid lo hi) 0) k) (halving f k ks (mid lo hi + 1) hi) (halving f k ks lo (mid lo hi))

  -- more steps than places between lo and hi change nothing
  pub enough : (f g lo hi : ℕ) → hi ≤ lo + f → hi ≤ lo + g → halving f k ks lo hi ≡ halving g k ks lo hi
  unfolding halving
  enough zero zero lo hi p q = refl
  enough zero (suc g) lo hi p q = rw (le-ltb lo hi (omega arith))
  enough (suc f) zero lo hi p q = rw (le-ltb lo hi (omega arith))
  enough (suc f) (suc g) lo hi p q =
      cases (λ (b : Bool). cond b (halfway f lo hi) lo ≡ cond b (halfway g lo hi) lo) (ltb lo hi)
      (λ e.
      let l : lo < hi = ltb-true lo hi e in
      rw (enough f g (mid lo hi + 1) hi (omega arith) (omega arith), enough f g lo (mid lo hi) (omega arith) (omega arith)))
      (λ e. refl)

  -- a step that goes up, and one that goes down, with as many steps left
  pub goes_up : (f lo hi : ℕ) → lo < hi → hi ≤ lo + f → get_or ks (mid lo hi) 0 < k → halving f k ks lo hi ≡ halving f k ks (mid lo hi + 1) hi
  unfolding halving
  goes_up zero lo hi l p t = absurd (omega arith)
  goes_up (suc f) lo hi l p t =
      rw (lt-ltb lo hi l, lt-ltb (get_or ks (mid lo hi) 0) k t) (enough f (suc f) (mid lo hi + 1) hi (omega arith) (omega arith))

  pub goes_down : (f lo hi : ℕ) → lo < hi → hi ≤ lo + f → k ≤ get_or ks (mid lo hi) 0 → halving f k ks lo hi ≡ halving f k ks lo (mid lo hi)
  unfolding halving
  goes_down zero lo hi l p t = absurd (omega arith)
  goes_down (suc f) lo hi l p t =
      rw (lt-ltb lo hi l, le-ltb (get_or ks (mid lo hi) 0) k t) (enough f (suc f) lo (mid lo hi) (omega arith) (omega arith))

  pub ends : (f lo hi : ℕ) → hi ≤ lo → halving f k ks lo hi ≡ lo
  unfolding halving
  ends zero lo hi l = refl
  ends (suc f) lo hi l = rw (le-ltb lo hi l)

  -- on keys in order it ends at the place of k
  pub ordered_reaches : Ordered ◌≤◌ ks
      → (f lo hi : ℕ)
      → lo ≤ place_of k ks
      → place_of k ks ≤ hi
      → hi ≤ length ks
      → hi ≤ lo + f
      → halving f k ks lo hi ≡ place_of k ks
  unfolding halving
  ordered_reaches o zero lo hi p q h g = omega arith
  ordered_reaches o (suc f) lo hi p q h g =
      cases (λ (b : Bool). cond b (halfway f lo hi) lo ≡ place_of k ks) (ltb lo hi)
      (λ e.
      let l : lo < hi = ltb-true lo hi e in
      let n : mid lo hi < length ks = omega arith in
      cases (λ (b : Bool). cond b (halving f k ks (mid lo hi + 1) hi) (halving f k ks lo (mid lo hi)) ≡ place_of k ks) (ltb (get_or ks (mid lo hi) 0) k)
      (λ t.
      let u : mid lo hi < place_of k ks = ordered_lt_place k ks (mid lo hi) o (ltb-true _ _ t) n in
      ordered_reaches o f (mid lo hi + 1) hi (omega arith) q h (omega arith))
      (λ t. ordered_reaches o f lo (mid lo hi) p (place_le k ks (mid lo hi) (ltb-false _ _ t) n) (omega arith) (omega arith)))
      (λ e. omega (arith, ltb-false lo hi e))

  pub ordered_halved : Ordered ◌≤◌ ks → halved k ks ≡ place_of k ks
  ordered_halved o = ordered_reaches o (length ks) 0 (length ks) zero-le (place_length k ks) (omega arith) (omega arith)

  pub reaches : ascending ks ≡ true → (f lo hi : ℕ) → lo ≤ place_of k ks → place_of k ks ≤ hi → hi ≤ length ks → hi ≤ lo + f → halving f k ks lo hi ≡ place_of k ks
  reaches a = ordered_reaches (ascending_order ks a)

  pub halved_place : ascending ks ≡ true → halved k ks ≡ place_of k ks
  halved_place a = ordered_halved (ascending_order ks a)

-- ---- finding a key

-- a key below the first is nowhere
absent : (k l : ℕ) (ks : List ℕ) → k < l → rises_from l ks ≡ true → find k ks ≡ None
unfolding find next rises_from
absent k l [] h a = refl
absent k l (m ∷ ks) h a =
    let g : k < m = lt_trans h (ltb-true l m (and_first (ltb l m) (rises_from m ks) a)) in
    rw (ne_eqb m k (λ e. omega arith), absent k m ks g (and_second (ltb l m) (rises_from m ks) a))

at_absent : (i : ℕ) → Some i ≡ None → ⊥
at_absent i e = let z : ◌≡◌ {A = ℕ} 0 1 = cc in omega arith

next_absent : (f : Option ℕ) → next f ≡ None → f ≡ None
unfolding next
next_absent (Some i) e = absurd (at_absent (suc i) e)
next_absent None e = refl

-- a key that is nowhere differs from the first, and is nowhere after it
pub absent_differs : (k l : ℕ) (ks : List ℕ) → find k (l ∷ ks) ≡ None → (l ≡ k → ⊥) × (find k ks ≡ None)
unfolding find next
absent_differs k l ks a =
    cases (λ (b : Bool). cond b (Some 0) (next (find k ks)) ≡ None → (l ≡ k → ⊥) × (find k ks ≡ None)) (eqb l k)
    (λ e h. absurd (at_absent 0 h))
    (λ e h. (eqb-false l k e, next_absent (find k ks) h))
    a

-- a key that is found stands in the list, and one that is not does not
is_at : Option ℕ → Bool
is_at (Some i) = true
is_at None = false

find_member : (k : ℕ) (ks : List ℕ) → member k ks ≡ is_at (find k ks)
unfolding is_at member find next
find_member k [] = refl
find_member k (l ∷ ls) =
    cases (λ (b : Bool). b || member k ls ≡ is_at (cond b (Some 0) (next (find k ls)))) (eqb l k)
    (λ e. refl)
    (λ e. find_member k ls ∙ moved (find k ls))
  where
    moved : (f : Option ℕ) → is_at f ≡ is_at (next f)
    moved (Some i) = refl
    moved None = refl

pub found_member : (k : ℕ) (ks : List ℕ) (i : ℕ) → find k ks ≡ Some i → member k ks ≡ true
unfolding is_at
found_member k ks i e = find_member k ks ∙ ap is_at e

pub absent_member : (k : ℕ) (ks : List ℕ) → find k ks ≡ None → member k ks ≡ false
unfolding is_at
absent_member k ks e = find_member k ks ∙ ap is_at e

next_cond : (b : Bool) (p : ℕ) → cond b (Some (suc p)) None ≡ next (cond b (Some p) None)
unfolding next
next_cond true p = refl
next_cond false p = refl

-- p, if k stands there
abbrev told : ℕ → List ℕ → ℕ → Option ℕ
told k ks p = cond (ltb p (length ks) && eqb (get_or ks p 0) k) (Some p) None

-- on ascending keys k stands at its place or nowhere
at_place : (k : ℕ) (ks : List ℕ) → ascending ks ≡ true → told k ks (place_of k ks) ≡ find k ks
unfolding place_of find ascending
at_place k [] a = refl
at_place k (l ∷ ks) a =
    cases (λ (b : Bool). told k (l ∷ ks) (cond b (suc (place_of k ks)) 0) ≡ cond (eqb l k) (Some 0) (next (find k ks))) (ltb l k)
    (λ e.
    let h : l < k = ltb-true l k e in
    rw (ne_eqb l k (λ q. omega arith), leb-suc-suc (suc (place_of k ks)) (length ks))
    (next_cond (ltb (place_of k ks) (length ks) && eqb (get_or ks (place_of k ks) 0) k) (place_of k ks) ∙ ap next (at_place k ks (tail_ascends l ks a))))
    (λ e.
    let h : k ≤ l = ltb-false l k e in
    rw (lt-ltb 0 (suc (length ks)) (suc-le-suc zero-le))
    (cases (λ (b : Bool). cond b (Some 0) None ≡ cond b (Some 0) (next (find k ks))) (eqb l k)
    (λ q. refl)
    (λ q.
    let ne : l ≡ k → ⊥ = eqb-false l k q in
    let g : k < l = omega arith in
    ap next (sym (absent k l ks g a)))))

-- on ascending keys the search by halves finds the key
pub find_by-find : (k : ℕ) (ks : List ℕ) → ascending ks ≡ true → find_by k ks ≡ find k ks
unfolding find_by
find_by-find k ks a = rw (halved_place k ks a) (at_place k ks a)

-- the same of the first n of a list, by the place p that the search ends at
module _ (k : ℕ) (ks : List ℕ) (n p : ℕ) (e : p ≡ halved k (take n ks)) where
  pub found_here : p < n → p < length ks → get_or ks p 0 ≡ k → Some p ≡ find_by k (take n ks)
  unfolding find_by
  found_here h g t =
      rw (← e, lt-ltb p (length (take n ks)) (rw length-take (omega arith)), get_or-take n ks p 0 h, eq-eqb (get_or ks p 0) k t)

  pub found_another : p < n → (get_or ks p 0 ≡ k → ⊥) → None ≡ find_by k (take n ks)
  unfolding find_by
  found_another h t = rw (← e, get_or-take n ks p 0 h, ne_eqb (get_or ks p 0) k t, and-false)

  found_none : length (take n ks) ≤ p → None ≡ find_by k (take n ks)
  unfolding find_by
  found_none h = rw (← e, le-ltb p (length (take n ks)) h)

  pub found_past_count : n ≤ p → None ≡ find_by k (take n ks)
  found_past_count h = found_none (rw length-take (omega arith))

  pub found_past_end : length ks ≤ p → None ≡ find_by k (take n ks)
  found_past_end h = found_none (rw length-take (omega arith))

from_next : (P : ℕ → Type 0) (f : Option ℕ) (i : ℕ) → next f ≡ Some i → ((j : ℕ) → f ≡ Some j → P (suc j)) → P i
unfolding next
from_next P (Some j) i e g = let z : suc j ≡ i = cc in subst P z (g j refl)
from_next P None i e g = absurd (at_absent i (sym e))

-- a found key stands at its place
pub found : (k : ℕ) (ks : List ℕ) (i : ℕ) → find k ks ≡ Some i → (i < length ks) × (get_or ks i 0 ≡ k)
unfolding find
found k [] i e = absurd (at_absent i (sym e))
found k (l ∷ ks) i e =
    cases (λ (b : Bool). cond b (Some 0) (next (find k ks)) ≡ Some i → (i < length (l ∷ ks)) × (get_or (l ∷ ks) i 0 ≡ k)) (eqb l k)
    (λ t h.
    let z : 0 ≡ i = cc in
    subst (λ (j : ℕ). (j < length (l ∷ ks)) × (get_or (l ∷ ks) j 0 ≡ k)) z (suc-le-suc zero-le, eqb-true l k t))
    (λ t h.
    from_next (λ (j : ℕ). (j < length (l ∷ ks)) × (get_or (l ∷ ks) j 0 ≡ k)) (find k ks) i h
    (λ j q. let r = found k ks j q in (suc-le-suc r.0, r.1)))
    e
