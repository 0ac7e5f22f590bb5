-- Putting rows: an equal key replaces, different keys change places, and what was put is found.
-- Assumes nothing.
use Rattle.std.specs.Prelude.{Some, None}
use mathlib.Core.Path.{◌≡◌, refl, sym, ap, ◌∙◌}
use mathlib.Core.Logic.{◌⊎◌, inl, inr}
use mathlib.Core.Bool.{Bool, true, false, cond}
use mathlib.Core.List.{List, [], ◌∷◌}
use Prim.Native.Nat.{ℕ, zero, suc, ◌<◌, ◌≤◌, zero-le, suc-le-suc}
use native.Mathlib.Nat.{not-suc-le-zero, le_of_suc-le-suc}
use native.Mathlib.Omega.{arith}
use borrow.Author.Tests.{lt-ltb, le-ltb, ltb-true, ltb-false, ne_eqb, eq-eqb, eqb-true, eqb-false}
use lib.Dec.{ltb, eqb}
use lib.ListN.{length, get_or, set, length-map}
use lib.Ieee.{Float, nan}
use Rattle.lists.proofs.Bools.{cases}
use Rattle.search.specs.Keys.{ascending, find, next}
use Rattle.table.specs.Table.{Row, put}
use Rattle.search.proofs.KeyLaws.{first_below, tail_ascends, absent_differs}
use Rattle.table.specs.Rows.{keys_of}
use Rattle.table.proofs.Laying.{distances_of, weights_of}
use Rattle.gathering.specs.Gathering.{standing, puts}

pub three : (a b : ℕ) → (a < b) ⊎ ((a ≡ b) ⊎ (b < a))
three a b =
    cases (λ (t : Bool). (a < b) ⊎ ((a ≡ b) ⊎ (b < a))) (ltb a b)
    (λ e. inl (ltb-true a b e))
    (λ e.
    cases (λ (t : Bool). (a < b) ⊎ ((a ≡ b) ⊎ (b < a))) (eqb a b)
    (λ q. inr (inl (eqb-true a b q)))
    (λ q.
    let le : b ≤ a = ltb-false a b e in
    let ne : a ≡ b → ⊥ = eqb-false a b q in
    inr (inr (omega arith))))

-- ---- one row

module _ (r x : Row) (l : List Row) where
  pub past : x.key < r.key → put r (x ∷ l) ≡ x ∷ put r l
  unfolding put
  past h = rw (lt-ltb x.key r.key h)

  pub here : x.key ≡ r.key → put r (x ∷ l) ≡ r ∷ l
  unfolding put
  here e = rw (le-ltb x.key r.key (omega arith), eq-eqb x.key r.key e)

  pub front : r.key < x.key → put r (x ∷ l) ≡ r ∷ (x ∷ l)
  unfolding put
  front h = rw (le-ltb x.key r.key (omega arith), ne_eqb x.key r.key (λ e. omega arith))

put_none : (r : Row) → put r [] ≡ r ∷ []
unfolding put
put_none r = refl

pub put_again : (r s : Row) (l : List Row) → s.key ≡ r.key → put r (put s l) ≡ put r l
put_again r s [] e = ap (put r) (put_none s) ∙ here r s [] e ∙ sym (put_none r)
put_again r s (x ∷ l) e = go (put_again r s l e) (three x.key s.key)
  where
    go : put r (put s l) ≡ put r l → (x.key < s.key) ⊎ ((x.key ≡ s.key) ⊎ (s.key < x.key)) → put r (put s (x ∷ l)) ≡ put r (x ∷ l)
    go ih (inl h) = rw (past s x l h, past r x (put s l) (omega arith), past r x l (omega arith), ih)
    go ih (inr (inl h)) = rw (here s x l h, here r s l e, here r x l (h ∙ e))
    go ih (inr (inr h)) = rw (front s x l h, here r s (x ∷ l) e, front r x l (omega arith))

pub put_swaps : (r s : Row) (l : List Row) → s.key < r.key → put r (put s l) ≡ put s (put r l)
put_swaps r s [] h =
    ap (put r) (put_none s)
    ∙ past r s [] h
    ∙ ap {B = List Row} (λ t. s ∷ t) (put_none r)
    ∙ sym (front s r [] h)
    ∙ ap (put s) (sym (put_none r))
put_swaps r s (x ∷ l) h = go (put_swaps r s l h) (three x.key s.key) (three x.key r.key)
  where
    go :
        put r (put s l) ≡ put s (put r l)
        → (x.key < s.key) ⊎ ((x.key ≡ s.key) ⊎ (s.key < x.key))
        → (x.key < r.key) ⊎ ((x.key ≡ r.key) ⊎ (r.key < x.key))
        → put r (put s (x ∷ l)) ≡ put s (put r (x ∷ l))
    go ih (inl a) b = rw (past s x l a, past r x (put s l) (omega arith), past r x l (omega arith), past s x (put r l) a, ih)
    go ih (inr (inl a)) b = rw (here s x l a, past r s l h, past r x l (omega arith), here s x (put r l) a)
    go ih (inr (inr a)) (inl b) = rw (front s x l a, past r s (x ∷ l) h, past r x l b, front s x (put r l) a)
    go ih (inr (inr a)) (inr (inl b)) = rw (front s x l a, past r s (x ∷ l) h, here r x l b, front s r l h)
    go ih (inr (inr a)) (inr (inr b)) = rw (front s x l a, past r s (x ∷ l) h, front r x l b, front s r (x ∷ l) h)

-- r's row is found in l
pub record HasRow (r : Row) (l : List Row) : Type 0 where
  pub place : ℕ
  pub at : find r.key (keys_of l) ≡ Some place
  pub distance : get_or (distances_of l) place nan ≡ r.distance
  pub weight : get_or (weights_of l) place nan ≡ r.weight

at_first : (r : Row) (l : List Row) → find r.key (keys_of (r ∷ l)) ≡ Some 0
unfolding find
at_first r l = rw (eq-eqb r.key r.key refl)

first_row : (r : Row) (l : List Row) → HasRow r (r ∷ l)
first_row r l = record { place = 0; at = at_first r l; distance = refl; weight = refl }

at_later : (r x : Row) (l : List Row) (p : ℕ) → x.key < r.key → find r.key (keys_of l) ≡ Some p → find r.key (keys_of (x ∷ l)) ≡ Some (suc p)
unfolding find next
at_later r x l p h e = rw (ne_eqb x.key r.key (λ q. omega arith), e)

later_row : (r x : Row) (l : List Row) → x.key < r.key → HasRow r l → HasRow r (x ∷ l)
later_row r x l h g = record { place = suc g.place; at = at_later r x l g.place h g.at; distance = g.distance; weight = g.weight }

pub has_put : (r : Row) (l : List Row) → HasRow r (put r l)
unfolding put
has_put r [] = first_row r []
has_put r (x ∷ l) = go (has_put r l) (three x.key r.key)
  where
    go : HasRow r (put r l) → (x.key < r.key) ⊎ ((x.key ≡ r.key) ⊎ (r.key < x.key)) → HasRow r (put r (x ∷ l))
    go ih (inl h) = rw (past r x l h) (later_row r x (put r l) h ih)
    go ih (inr (inl h)) = rw (here r x l h) (first_row r l)
    go ih (inr (inr h)) = rw (front r x l h) (first_row r (x ∷ l))

absent_cons : (k : ℕ) (x : Row) (l : List Row) → (x.key ≡ k → ⊥) → find k (keys_of l) ≡ None → find k (keys_of (x ∷ l)) ≡ None
unfolding find next
absent_cons k x l h a = rw (ne_eqb x.key k h, a)

-- another key stays absent
pub absent_put : (k : ℕ) (r : Row) (l : List Row) → (r.key ≡ k → ⊥) → find k (keys_of l) ≡ None → find k (keys_of (put r l)) ≡ None
unfolding put
absent_put k r [] h a = absent_cons k r [] h a
absent_put k r (x ∷ l) h a =
    let d = absent_differs k x.key (keys_of l) a in
    go (absent_put k r l h d.1) d (three x.key r.key)
  where
    go :
        find k (keys_of (put r l)) ≡ None
        → (x.key ≡ k → ⊥) × (find k (keys_of l) ≡ None)
        → (x.key < r.key) ⊎ ((x.key ≡ r.key) ⊎ (r.key < x.key))
        → find k (keys_of (put r (x ∷ l))) ≡ None
    go ih d (inl q) = rw (past r x l q) (absent_cons k x (put r l) d.0 ih)
    go ih d (inr (inl q)) = rw (here r x l q) (absent_cons k r l h d.1)
    go ih d (inr (inr q)) = rw (front r x l q) (absent_cons k r (x ∷ l) h a)

-- a new key makes one row more, and no key makes fewer
pub longer : (r : Row) (l : List Row) → find r.key (keys_of l) ≡ None → length (put r l) ≡ suc (length l)
unfolding put
longer r [] a = refl
longer r (x ∷ l) a =
    let d = absent_differs r.key x.key (keys_of l) a in
    go (longer r l d.1) d.0 (three x.key r.key)
  where
    go :
        length (put r l) ≡ suc (length l)
        → (x.key ≡ r.key → ⊥)
        → (x.key < r.key) ⊎ ((x.key ≡ r.key) ⊎ (r.key < x.key))
        → length (put r (x ∷ l)) ≡ suc (suc (length l))
    go ih d (inl q) = rw (past r x l q) (ap suc ih)
    go ih d (inr (inl q)) = absurd (d q)
    go ih d (inr (inr q)) = rw (front r x l q)

pub no_shorter : (r : Row) (l : List Row) → length l ≤ length (put r l)
unfolding put
no_shorter r [] = zero-le
no_shorter r (x ∷ l) = go (no_shorter r l) (three x.key r.key)
  where
    go : length l ≤ length (put r l) → (x.key < r.key) ⊎ ((x.key ≡ r.key) ⊎ (r.key < x.key)) → suc (length l) ≤ length (put r (x ∷ l))
    go ih (inl q) = rw (past r x l q) (suc-le-suc ih)
    go ih (inr (inl q)) = rw (here r x l q) (omega arith)
    go ih (inr (inr q)) = rw (front r x l q) (omega arith)

-- ---- several rows

module _ (most : Float) where
  pub puts_stands : (r : Row) (own rs : List Row) → standing most r.weight ≡ true → puts most (r ∷ own) rs ≡ put r (puts most own rs)
  unfolding puts
  puts_stands r own rs e = rw e

  pub puts_waits : (r : Row) (own rs : List Row) → standing most r.weight ≡ false → puts most (r ∷ own) rs ≡ puts most own rs
  unfolding puts
  puts_waits r own rs e = rw e

  -- by whether the first stands
  pub by_first :
      (P : List Row → Type 0) (r : Row) (own rs : List Row)
      → (standing most r.weight ≡ true → P (put r (puts most own rs)))
      → (standing most r.weight ≡ false → P (puts most own rs))
      → P (puts most (r ∷ own) rs)
  unfolding puts
  by_first P r own rs f g = cases (λ (b : Bool). P (cond b (put r (puts most own rs)) (puts most own rs))) (standing most r.weight) f g

  -- a standing row in the place of one with its key is put last
  pub puts_set :
      (own rs : List Row) (p : ℕ) (r : Row)
      → ascending (keys_of own) ≡ true
      → p < length own
      → get_or (keys_of own) p 0 ≡ r.key
      → standing most r.weight ≡ true
      → puts most (set own p r) rs ≡ put r (puts most own rs)
  unfolding ascending
  puts_set [] rs p r a h e s = absurd (not-suc-le-zero h)
  puts_set (x ∷ own) rs zero r a h e s =
      puts_stands r own rs s
      ∙ by_first (λ t. put r (puts most own rs) ≡ put r t) x own rs (λ w. sym (put_again r x (puts most own rs) e)) (λ w. refl)
  puts_set (x ∷ own) rs (suc p) r a h e s = go (puts_set own rs p r (tail_ascends x.key (keys_of own) a) (le_of_suc-le-suc h) e s)
    where
      below : x.key < r.key
      below = rw e at (first_below x.key (keys_of own) p a (rw length-map (le_of_suc-le-suc h)))

      go : puts most (set own p r) rs ≡ put r (puts most own rs) → puts most (x ∷ set own p r) rs ≡ put r (puts most (x ∷ own) rs)
      go ih =
          by_first (λ t. puts most (x ∷ set own p r) rs ≡ put r t) x own rs
          (λ w. puts_stands x (set own p r) rs w ∙ ap (put x) ih ∙ sym (put_swaps r x (puts most own rs) below))
          (λ w. puts_waits x (set own p r) rs w ∙ ih)

  -- a key that no standing row has stays absent
  pub puts_absent :
      (own rs : List Row) (k : ℕ)
      → ((q : ℕ) → q < length own → standing most (get_or (weights_of own) q nan) ≡ true → get_or (keys_of own) q 0 ≡ k → ⊥)
      → find k (keys_of rs) ≡ None
      → find k (keys_of (puts most own rs)) ≡ None
  unfolding puts
  puts_absent [] rs k h a = a
  puts_absent (x ∷ own) rs k h a =
      by_first (λ t. find k (keys_of t) ≡ None) x own rs
      (λ w. absent_put k x (puts most own rs) (h 0 (suc-le-suc zero-le) w) (puts_absent own rs k (λ q l. h (suc q) (suc-le-suc l)) a))
      (λ w. puts_absent own rs k (λ q l. h (suc q) (suc-le-suc l)) a)
