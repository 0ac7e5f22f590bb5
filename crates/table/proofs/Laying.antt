-- A row put among the rows, and the rows laid back into their lists.
-- Assumes nothing.
use Rattle.std.specs.Prelude.{None}
use mathlib.Core.Path.{◌≡◌, refl, sym, ap}
use mathlib.Core.Bool.{Bool, true, cond}
use mathlib.Core.List.{List, [], ◌∷◌, ◌++◌, map, append_assoc}
use Prim.Native.Nat.{ℕ, zero, suc, ◌<◌, ◌≤◌}
use native.Mathlib.Nat.{not-suc-le-zero, le_of_suc-le-suc, suc-ne-zero, suc_inj}
use native.Mathlib.Omega.{arith}
use borrow.Author.Tests.{lt-ltb, le-ltb, ne_eqb, eq-eqb}
use lib.Dec.{ltb, eqb}
use lib.ListN.{length, get_or, take, drop, set, length-map, length-set, length-append, length-take, length-drop, take-append-drop}
use lib.Seq.{length-take-le, set-append_left, take-take}
use lib.Ieee.{Float}
use Rattle.lists.specs.Beside.{beside_by}
use Rattle.lists.specs.Places.{opened}
use Rattle.search.specs.Keys.{find, place_of, ascending}
use Rattle.table.specs.Table.{Row, rows_of, put, laid}
use Rattle.table.specs.Rows.{keys_of}
use Rattle.lists.proofs.Bools.{cases}
use Rattle.search.proofs.KeyLaws.{first_below, tail_ascends, absent_differs}

-- ---- the columns of the rows are the lists

abbrev pub distances_of : List Row → List Float
distances_of rs = map (λ (r : Row). r.distance) rs

abbrev pub weights_of : List Row → List Float
weights_of rs = map (λ (r : Row). r.weight) rs

pub columns :
    (ks : List ℕ) (ds ws : List Float) (n : ℕ)
    → length ds ≡ length ks
    → length ws ≡ length ks
    → (keys_of (rows_of ks ds ws n) ≡ take n ks) × (distances_of (rows_of ks ds ws n) ≡ take n ds) × (weights_of (rows_of ks ds ws n) ≡ take n ws)
unfolding beside_by
columns ks ds ws zero p q = (refl, refl, refl)
columns [] [] [] (suc n) p q = (refl, refl, refl)
columns [] (d ∷ ds) ws (suc n) p q = absurd (suc-ne-zero _ p)
columns [] [] (w ∷ ws) (suc n) p q = absurd (suc-ne-zero _ q)
columns (k ∷ ks) [] ws (suc n) p q = absurd (suc-ne-zero _ (sym p))
columns (k ∷ ks) (d ∷ ds) [] (suc n) p q = absurd (suc-ne-zero _ (sym q))
columns (k ∷ ks) (d ∷ ds) (w ∷ ws) (suc n) p q =
    let r = columns ks ds ws n (suc_inj p) (suc_inj q) in
    (ap {B = List ℕ} (λ t. k ∷ t) r.0, ap {B = List Float} (λ t. d ∷ t) r.1, ap {B = List Float} (λ t. w ∷ t) r.2)

-- ---- putting a row

-- at its key's place
pub put_set : (r : Row) (rs : List Row) (i : ℕ) → ascending (keys_of rs) ≡ true → i < length rs → get_or (keys_of rs) i 0 ≡ r.key → put r rs ≡ set rs i r
unfolding put ascending
put_set r [] i a h e = absurd (not-suc-le-zero h)
put_set r (s ∷ rs) zero a h e = rw (le-ltb s.key r.key (omega arith), eq-eqb s.key r.key e)
put_set r (s ∷ rs) (suc i) a h e =
    let l : s.key < r.key = rw e at (first_below s.key (keys_of rs) i a (rw length-map (le_of_suc-le-suc h))) in
    rw (lt-ltb s.key r.key l) (ap {B = List Row} (λ t. s ∷ t) (put_set r rs i (tail_ascends s.key (keys_of rs) a) (le_of_suc-le-suc h) e))

-- as a new row
pub put_open :
    (r : Row) (rs : List Row)
    → find r.key (keys_of rs) ≡ None
    → put r rs ≡ take (place_of r.key (keys_of rs)) rs ++ r ∷ drop (place_of r.key (keys_of rs)) rs
unfolding put place_of
put_open r [] a = refl
put_open r (s ∷ rs) a =
    let d = absent_differs r.key s.key (keys_of rs) a in
    cases (λ (b : Bool).
    cond b (s ∷ put r rs) (cond (eqb s.key r.key) (r ∷ rs) (r ∷ (s ∷ rs)))
    ≡ take (cond b (suc (place_of r.key (keys_of rs))) 0) (s ∷ rs) ++ r
    ∷ drop (cond b (suc (place_of r.key (keys_of rs))) 0) (s ∷ rs)) (ltb s.key r.key)
    (λ e. ap {B = List Row} (λ t. s ∷ t) (put_open r rs d.1))
    (λ e. rw (ne_eqb s.key r.key d.0))

-- ---- laying the rows

module _ {A : Type 0} (f : Row → A) where
  map_set : (rs : List Row) (i : ℕ) (r : Row) → map f (set rs i r) ≡ set (map f rs) i (f r)
  map_set [] i r = refl
  map_set (s ∷ rs) zero r = refl
  map_set (s ∷ rs) (suc i) r = ap {B = List A} (λ t. f s ∷ t) (map_set rs i r)

  map_open : (rs : List Row) (p : ℕ) (r : Row) → map f (take p rs ++ r ∷ drop p rs) ≡ take p (map f rs) ++ f r ∷ drop p (map f rs)
  map_open [] zero r = refl
  map_open [] (suc p) r = refl
  map_open (s ∷ rs) zero r = refl
  map_open (s ∷ rs) (suc p) r = ap {B = List A} (λ t. f s ∷ t) (map_open rs p r)

  module _ (rs : List Row) (xs : List A) (n : ℕ) (e : map f rs ≡ take n xs) where
    -- a row set at i changes one place of the list
    pub laid_set : (i : ℕ) (r : Row) → i < n → n ≤ length xs → laid (map f (set rs i r)) xs ≡ set xs i (f r)
    laid_set i r h g =
        let l : length (take n xs) ≡ n = length-take-le n xs g in
        rw (map_set, e, length-set, l, ← set-append_left (take n xs) (drop n xs) i (f r) (omega arith), take-append-drop)

    -- a new row at p opens a place of the list
    pub laid_open : (p : ℕ) (r : Row) → p ≤ n → n < length xs → laid (map f (take p rs ++ r ∷ drop p rs)) xs ≡ opened xs n p (f r)
    laid_open p r h g =
        let m : length (take p (take n xs) ++ f r ∷ drop p (take n xs)) ≡ suc n = simp (length-append, length-take, length-drop) (omega arith) in
        rw (map_open, e, m, take-take p n xs h, append_assoc)
