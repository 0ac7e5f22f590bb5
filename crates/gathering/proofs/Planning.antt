-- The seats of ascending own keys are in order among the rows, and stay so where rows are held back; settled by them, the columns
-- are the table with the own rows put.
-- Assumes nothing.
use mathlib.Core.Path.{◌≡◌, refl, sym, ap, ◌∙◌}
use mathlib.Core.Logic.{◌⊎◌, inl, inr, ⊎_elim}
use mathlib.Core.Bool.{true}
use mathlib.Core.List.{List, map}
use Prim.Native.Nat.{ℕ, ◌<◌, ◌≤◌, zero-le}
use native.Mathlib.Omega.{arith}
use lib.ListN.{length, get_or, take, length-map, take-append-drop}
use lib.Seq.{length-take-le, get_or-take}
use lib.Ieee.{Float}
use Rattle.lists.proofs.ListLaws.{ordered_at}
use Rattle.search.specs.Keys.{ascending}
use Rattle.search.proofs.KeyLaws.{ascending_keys}
use Rattle.table.specs.Table.{Row, table, rows_of, lengths_ok, laid, relaid}
use Rattle.table.specs.Rows.{keys_of}
use Rattle.table.proofs.RowLaws.{lengths_known}
use Rattle.table.proofs.Laying.{distances_of, weights_of, columns}
use Rattle.table.proofs.Putting.{same_table, rows_length}
use Rattle.gathering.specs.Gathering.{puts, below, above, seat_of, seats_of, held_back, Within, InOrder, seated}
use Rattle.gathering.proofs.SeatLaws.{seat_within, seat_order}
use Rattle.gathering.proofs.Seated.{puts_seated}
use Rattle.gathering.proofs.Filling.{filled_at, held_at, take_held}

laid_back : {A : Type 0} (l : List A) (n : ℕ) → n ≤ length l → laid (take n l) l ≡ l
laid_back l n h = rw (length-take-le n l h) (take-append-drop n l)

module _ (ks oks ss : List ℕ) (m : ℕ) (located : take m ss ≡ seats_of ks (take m oks)) (own : m ≤ length oks) (seats : m ≤ length ss) where
  at : (i : ℕ) → i < m → get_or ss i 0 ≡ seat_of (get_or oks i 0) ks
  at i l = filled_at (λ (k : ℕ). seat_of k ks) 0 0 oks ss m i located seats l

  pub located_within : (n : ℕ) → length ks ≤ n → Within n ss m
  located_within n h i l = rw (at i l) (omega (arith, seat_within (get_or oks i 0) ks))

  located_order : ascending (take m oks) ≡ true → InOrder ss m
  located_order up i j l h z =
      let b = ordered_at ◌<◌ (take m oks) 0 (ascending_keys (take m oks) up) i j l (rw (length-take-le m oks own) h) in
      rw (at i (omega arith), at j h) (seat_order (get_or oks i 0) (get_or oks j 0) ks (rw (get_or-take m oks i 0 (omega arith), get_or-take m oks j 0 h) at b))

  module _ (most : Float) (ws : List Float) (ss' : List ℕ) (held : ss' ≡ held_back most ws ss) where
    held_located : take m ss' ≡ held_back most ws (seats_of ks (take m oks))
    held_located = ap (take m) held ∙ take_held most m ws ss ∙ ap (held_back most ws) located

    kept_at : (i : ℕ) → (get_or ss' i 0 ≡ get_or ss i 0) ⊎ (get_or ss' i 0 ≡ 0)
    kept_at i = rw held (held_at most ws ss i)

    held_within : (n : ℕ) → length ks ≤ n → Within n ss' m
    held_within n h i l = ⊎_elim (λ e. rw e (located_within n h i l)) (λ e. rw e zero-le) (kept_at i)

    held_order : ascending (take m oks) ≡ true → InOrder ss' m
    held_order up i j l h z = go (kept_at i) (kept_at j)
      where
        go :
            (get_or ss' i 0 ≡ get_or ss i 0) ⊎ (get_or ss' i 0 ≡ 0)
            → (get_or ss' j 0 ≡ get_or ss j 0) ⊎ (get_or ss' j 0 ≡ 0)
            → above (get_or ss' i 0) ≤ below (get_or ss' j 0)
        go (inl e) (inl f) = rw (e, f) (located_order up i j l h (rw f at z))
        go (inl e) (inr f) = absurd (omega arith)
        go (inr e) (inl f) = rw e zero-le
        go (inr e) (inr f) = rw e zero-le

-- ---- the columns of a table

-- the seats ss are a plan for the own rows: each column gets as many values, and the columns settled by it are the table with the rows put
pub record Planned (most : Float) (ks : List ℕ) (ds ws : List Float) (n : ℕ) (oks : List ℕ) (ods ows : List Float) (own : ℕ)
    (ss : List ℕ) : Type 0 where
  pub within : Within n ss own
  pub order : InOrder ss own
  pub keys : length (puts most (rows_of oks ods ows own) (rows_of ks ds ws n)) ≡ length (seated (take own ss) (take own oks) (take n ks))
  pub distances : length (puts most (rows_of oks ods ows own) (rows_of ks ds ws n)) ≡ length (seated (take own ss) (take own ods) (take n ds))
  pub weights : length (puts most (rows_of oks ods ows own) (rows_of ks ds ws n)) ≡ length (seated (take own ss) (take own ows) (take n ws))
  pub settled :
      (ks' : List ℕ) (ds' ws' : List Float) (total : ℕ)
      → ks' ≡ laid (seated (take own ss) (take own oks) (take n ks)) ks
      → ds' ≡ laid (seated (take own ss) (take own ods) (take n ds)) ds
      → ws' ≡ laid (seated (take own ss) (take own ows) (take n ws)) ws
      → total ≡ length (puts most (rows_of oks ods ows own) (rows_of ks ds ws n))
      → table ks' ds' ws' total ≡ relaid (table ks ds ws n) (puts most (rows_of oks ods ows own) (rows_of ks ds ws n))

module _ (most : Float) (ks : List ℕ) (ds ws : List Float) (n : ℕ) (known : lengths_ok (length ks) (length ds) (length ws) n ≡ true)
    (oks : List ℕ) (ods ows : List Float) (own : ℕ) (own-known : lengths_ok (length oks) (length ods) (length ows) own ≡ true)
    (up : ascending (take own oks) ≡ true) (ss : List ℕ) (seats : own ≤ length ss)
    (located : take own ss ≡ seats_of (take n ks) (take own oks)) (ss' : List ℕ)
    (held : ss' ≡ held_back most (take own ows) ss) where
  abbrev mine : List Row
  mine = rows_of oks ods ows own

  abbrev rs : List Row
  rs = rows_of ks ds ws n

  fit : (n ≤ length ks) × (length ds ≡ length ks) × (length ws ≡ length ks) × (length ks ≤ 65536)
  fit = lengths_known (length ks) (length ds) (length ws) n known

  own_fit : (own ≤ length oks) × (length ods ≡ length oks) × (length ows ≡ length oks) × (length oks ≤ 65536)
  own_fit = lengths_known (length oks) (length ods) (length ows) own own-known

  here : (keys_of rs ≡ take n ks) × (distances_of rs ≡ take n ds) × (weights_of rs ≡ take n ws)
  here = columns ks ds ws n fit.1 fit.2

  there : (keys_of mine ≡ take own oks) × (distances_of mine ≡ take own ods) × (weights_of mine ≡ take own ows)
  there = columns oks ods ows own own_fit.1 own_fit.2

  -- one column: any of a row's values
  module _ {A : Type 0} (f : Row → A) (xs vs : List A) (p : map f rs ≡ take n xs) (q : map f mine ≡ take own vs) where
    settles : map f (puts most mine rs) ≡ seated (take own ss') (take own vs) (take n xs)
    settles =
        puts_seated f most mine rs (rw there.0 up)
        ∙ rw (here.0, there.0, there.2, ← held_located (take n ks) oks ss own located own_fit.0 seats most (take own ows) ss' held, p, q) refl

    many : length (puts most mine rs) ≡ length (seated (take own ss') (take own vs) (take n xs))
    many = sym (length-map (puts most mine rs) f) ∙ ap length settles

    lays : (xs' : List A) → xs' ≡ laid (seated (take own ss') (take own vs) (take n xs)) xs → xs' ≡ laid (map f (puts most mine rs)) xs
    lays xs' e = e ∙ ap (λ (l : List A). laid l xs) (sym settles)

  pub planned : Planned most ks ds ws n oks ods ows own ss'
  unfolding relaid
  planned =
      record {
        within =
            held_within (take n ks) oks ss own located own_fit.0 seats most (take own ows) ss' held n
            (omega (arith, length-take-le n ks fit.0));
        order = held_order (take n ks) oks ss own located own_fit.0 seats most (take own ows) ss' held up;
        keys = many (λ (r : Row). r.key) ks oks here.0 there.0;
        distances = many (λ (r : Row). r.distance) ds ods here.1 there.1;
        weights = many (λ (r : Row). r.weight) ws ows here.2 there.2;
        settled =
            λ ks' ds' ws' total a b c e.
            same_table
            (lays (λ (r : Row). r.key) ks oks here.0 there.0 ks' a)
            (lays (λ (r : Row). r.distance) ds ods here.1 there.1 ds' b)
            (lays (λ (r : Row). r.weight) ws ows here.2 there.2 ws' c)
            e;
      }

-- a table's own rows laid back
pub relaid_same : (ks : List ℕ) (ds ws : List Float) (n : ℕ)
    → lengths_ok (length ks) (length ds) (length ws) n ≡ true
    → relaid (table ks ds ws n) (rows_of ks ds ws n) ≡ table ks ds ws n
unfolding relaid
relaid_same ks ds ws n known =
    let f = lengths_known (length ks) (length ds) (length ws) n known in
    let c = columns ks ds ws n f.1 f.2 in
    rw (c.0, c.1, c.2, rows_length ks ds ws n known)
    (same_table (laid_back ks n f.0) (laid_back ds n (omega arith)) (laid_back ws n (omega arith)) refl)
