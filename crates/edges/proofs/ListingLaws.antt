-- A neighbour is looked up by halves among the keys, and stored among the rows: on an accepted table these say the same.
-- Assumes nothing.
use Rattle.std.specs.Prelude.{Some, None, Option}
use Prim.Native.Nat.{ℕ, ◌≤◌, ◌<◌}
use native.Mathlib.Omega.{arith}
use mathlib.Core.Path.{◌≡◌, refl, sym, ap, ◌∙◌}
use mathlib.Core.Bool.{Bool, true, false, cond}
use mathlib.Core.List.{List, [], ◌∷◌}
use lib.Dec.{eqb}
use lib.Ieee.{Float}
use lib.ListN.{get_or, take, drop, length-take}
use borrow.Author.Tests.{lt-ltb, le-ltb}
use Rattle.lists.proofs.Bools.{cases}
use Rattle.neighbors.specs.Neighbors.{neighbours}
use Rattle.search.specs.Keys.{ascending, find, find_by, next}
use Rattle.table.specs.Table.{Row, rows_of, table}
use Rattle.search.proofs.KeyLaws.{find_by-find, found}
use Rattle.table.proofs.RowLaws.{row_at_lem}
use Rattle.table.proofs.Laying.{columns}
use Rattle.table.specs.Rows.{keys_of, stored}
use Rattle.edges.specs.Edges.{listed}
use Rattle.edges.specs.Steps.{Accepted, row_at}

-- the first of some rows
abbrev front : List Row → Option Row
front [] = None
front (r ∷ rs) = Some r

-- the row at the place that a search tells
abbrev told : Option ℕ → List Row → Option Row
told (Some i) rows = front (drop i rows)
told None rows = None

told_next : (f : Option ℕ) (r : Row) (rs : List Row) → told (next f) (r ∷ rs) ≡ told f rs
unfolding next
told_next (Some i) r rs = refl
told_next None r rs = refl

-- a row is looked up by the place of its key
stored_told : (k : ℕ) (rows : List Row) → stored k rows ≡ told (find k (keys_of rows)) rows
unfolding stored find
stored_told k [] = refl
stored_told k (r ∷ rs) =
    cases (λ (b : Bool). cond b (Some r) (stored k rs) ≡ told (cond b (Some 0) (next (find k (keys_of rs)))) (r ∷ rs)) (eqb r.key k)
    (λ e. refl) (λ e. stored_told k rs ∙ sym (told_next (find k (keys_of rs)) r rs))

module _ (ks : List ℕ) (ds ws : List Float) (n : ℕ) (acc : Accepted (table ks ds ws n)) where
  -- the keys of the rows are the first n keys, and ascend
  keys_of_rows : keys_of (rows_of ks ds ws n) ≡ take n ks
  keys_of_rows = (columns ks ds ws n acc.distances acc.weights).0

  pub rows_rise : ascending (keys_of (rows_of ks ds ws n)) ≡ true
  rows_rise = rw keys_of_rows acc.rising

  -- what the search by halves tells
  looked_up : (k : ℕ) → stored k (rows_of ks ds ws n) ≡ told (find_by k (take n ks)) (rows_of ks ds ws n)
  looked_up k =
      stored_told k (rows_of ks ds ws n)
      ∙ ap (λ (l : List ℕ). told (find k l) (rows_of ks ds ws n)) keys_of_rows
      ∙ ap (λ (f : Option ℕ). told f (rows_of ks ds ws n)) (sym (find_by-find k (take n ks) acc.rising))

  module _ (k : ℕ) (f : Option ℕ) (e : f ≡ find_by k (take n ks)) where
    -- a place that is found is that of a row
    pub place_below : (i : ℕ) → f ≡ Some i → i < n
    place_below i t =
        let h = (found k (take n ks) i (sym (find_by-find k (take n ks) acc.rising) ∙ sym e ∙ t)).0 in
        omega (arith, length-take n ks)

    pub none_stored : f ≡ None → stored k (rows_of ks ds ws n) ≡ None
    none_stored t = looked_up k ∙ ap (λ (g : Option ℕ). told g (rows_of ks ds ws n)) (sym e ∙ t)

    pub one_stored : (i : ℕ) → f ≡ Some i → stored k (rows_of ks ds ws n) ≡ Some (row_at ks ds ws i)
    one_stored i t =
        looked_up k ∙ ap (λ (g : Option ℕ). told g (rows_of ks ds ws n)) (sym e ∙ t)
        ∙ ap front (row_at_lem ks ds ws n i acc.distances acc.weights (place_below i t) acc.fits)

  -- whether a row and a neighbour are listed
  module _ (crosses : Row → Row → Bool) (row k : ℕ) where
    abbrev Is : Bool → Type 0
    Is b = b ≡ listed neighbours crosses (rows_of ks ds ws n) (row_at ks ds ws row) k

    pub not_smaller : k ≤ get_or ks row 0 → Is false
    unfolding listed
    not_smaller h = rw (le-ltb (get_or ks row 0) k h)

    pub not_stored : get_or ks row 0 < k → (f : Option ℕ) → f ≡ find_by k (take n ks) → f ≡ None → Is false
    unfolding listed
    not_stored h f e t = rw (lt-ltb (get_or ks row 0) k h, none_stored k f e t)

    pub both_stored :
        get_or ks row 0 < k
        → (f : Option ℕ)
        → f ≡ find_by k (take n ks)
        → (i : ℕ)
        → f ≡ Some i
        → Is (crosses (row_at ks ds ws row) (row_at ks ds ws i))
    unfolding listed
    both_stored h f e i t = rw (lt-ltb (get_or ks row 0) k h, one_stored k f e i t)
