-- A loop that moves places one up, from the last one down, for every element type.
-- Assumes nothing.
use mathlib.Core.Path.{◌≡◌, refl, ap}
use mathlib.Core.List.{List, [], ◌∷◌, ◌++◌}
use Prim.Native.Nat.{ℕ, zero, suc, ◌-◌, ◌<◌, ◌≤◌}
use native.Mathlib.Nat.{not-suc-le-zero, le_of_suc-le-suc, le_antisymm}
use native.Mathlib.Numerals.{sub-one}
use borrow.Author.Tests.{le-leb, lt-leb, lt-ltb, le-ltb}
use native.Mathlib.Omega.{arith}
use lib.ListN.{length, set, get_or, take, drop, length-append, length-take, length-drop}
use Rattle.lists.specs.Places.{opened, inserted}

module _ {A : Type 0} (d : A) where
  -- the list once the places from i up to n have moved up: place i still holds what it held
  abbrev pub moved : List A → ℕ → ℕ → List A
  moved l n i = opened l n i (get_or l i d)

  -- nothing has moved yet
  pub none_moved : (l : List A) (n : ℕ) → n < length l → moved l n n ≡ l
  none_moved [] n h = absurd (not-suc-le-zero h)
  none_moved (x ∷ l) zero h = refl
  none_moved (x ∷ l) (suc n) h = ap {B = List A} (λ t. x ∷ t) (none_moved l n (le_of_suc-le-suc h))

  -- one place more
  pub one_moved : (l : List A) (n j : ℕ) → suc j ≤ n → n < length l → set (moved l n (suc j)) (suc j) (get_or l j d) ≡ moved l n j
  one_moved [] n j h g = absurd (not-suc-le-zero g)
  one_moved (x ∷ l) zero j h g = absurd (not-suc-le-zero h)
  one_moved (x ∷ []) (suc n) j h g = absurd (not-suc-le-zero (le_of_suc-le-suc g))
  one_moved (x ∷ (y ∷ l)) (suc zero) zero h g = refl
  one_moved (x ∷ (y ∷ l)) (suc (suc n)) zero h g = refl
  one_moved (x ∷ (y ∷ l)) (suc n) (suc j) h g =
      ap {B = List A} (λ t. x ∷ t) (one_moved (y ∷ l) n j (le_of_suc-le-suc h) (le_of_suc-le-suc g))

  -- the opened place takes its value
  pub placed : (l : List A) (n i : ℕ) (u v : A) → i ≤ n → n < length l → set (opened l n i u) i v ≡ opened l n i v
  placed [] n i u v h g = absurd (not-suc-le-zero g)
  placed (x ∷ l) n zero u v h g = refl
  placed (x ∷ l) zero (suc i) u v h g = absurd (not-suc-le-zero h)
  placed (x ∷ l) (suc n) (suc i) u v h g =
      ap {B = List A} (λ t. x ∷ t) (placed l n i u v (le_of_suc-le-suc h) (le_of_suc-le-suc g))

  -- no place is gained or lost
  pub opened_length : (l : List A) (n i : ℕ) (v : A) → i ≤ n → n < length l → length (opened l n i v) ≡ length l
  opened_length [] n i v h g = absurd (not-suc-le-zero g)
  opened_length (x ∷ l) n zero v h g = ap suc (rest l n (le_of_suc-le-suc g)) where
    rest : (l : List A) (n : ℕ) → n ≤ length l → length (take n (x ∷ l) ++ drop n l) ≡ length l
    rest l n k = simp (length-append, length-take, length-drop) (omega arith)
  opened_length (x ∷ l) zero (suc i) v h g = absurd (not-suc-le-zero h)
  opened_length (x ∷ l) (suc n) (suc i) v h g = ap suc (opened_length l n i v (le_of_suc-le-suc h) (le_of_suc-le-suc g))

  -- a place below is as it was
  kept : (l : List A) (n j : ℕ) → suc j ≤ n → n < length l → get_or (moved l n (suc j)) j d ≡ get_or l j d
  kept [] n j h g = absurd (not-suc-le-zero g)
  kept (x ∷ l) n zero h g = refl
  kept (x ∷ l) zero (suc j) h g = absurd (not-suc-le-zero h)
  kept (x ∷ l) (suc n) (suc j) h g = kept l n j (le_of_suc-le-suc h) (le_of_suc-le-suc g)

  -- a turn of the loop, from the list m as it finds it
  pub turn : (l m : List A) (n i p : ℕ) → p < i → i ≤ n → n < length l → m ≡ moved l n i → set m i (get_or m (i - 1) d) ≡ moved l n (i - 1)
  turn l m n zero p k h g e = absurd (not-suc-le-zero k)
  turn l m n (suc j) p k h g e = rw (e, sub-one (suc j), kept l n j h g) (one_moved l n j h g)

  -- the loop is done, and the value is put in
  pub put_in : (l m : List A) (n i p : ℕ) (v : A) → p ≤ i → i ≤ p → i ≤ n → n < length l → m ≡ moved l n i → set m p v ≡ inserted l n p v
  put_in l m n i p v a b h g e =
      let q : i ≡ p = le_antisymm b a in
      rw (e, q, le-leb p n (rw q at h), lt-ltb n (length l) g) (placed l n p (get_or l p d) v (rw q at h) g)

  -- no place for one more
  pub no_room : (l : List A) (n p : ℕ) (v : A) → p ≤ n → length l ≤ n → l ≡ inserted l n p v
  no_room l n p v h g = rw (le-leb p n h, le-ltb n (length l) g)

  -- the place is past the count
  pub past : (l : List A) (n p : ℕ) (v : A) → n < p → l ≡ inserted l n p v
  past l n p v h = rw (lt-leb p n h)
