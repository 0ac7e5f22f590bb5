-- Rows that stand side by side in three lists of equal length.
-- Assumes nothing.
use mathlib.Core.Path.{◌≡◌, sym}
use mathlib.Core.Bool.{Bool, true, false}
use mathlib.Core.List.{List, ◌∷◌}
use Prim.Native.Nat.{ℕ, suc, ◌<◌, ◌≤◌}
use borrow.Author.Tests.{leb-true, eqb-true}
use lib.Dec.{leb, eqb}
use lib.ListN.{length, get_or, drop}
use lib.Ieee.{Float, nan}
use Rattle.table.specs.Table.{row, beside, rows_of, row_ok, rows_ok, lengths_ok}
use Rattle.lists.proofs.Bools.{and_first, and_second}
use Rattle.lists.proofs.BesideLaws.{by_length, by_at, by_past}

-- what lengths that pass are
pub lengths_known : (a b c n : ℕ) → lengths_ok a b c n ≡ true → (n ≤ a) × (b ≡ a) × (c ≡ a) × (a ≤ 65536)
lengths_known a b c n e =
    let s = and_second (eqb a b) _ e in
    let t = and_second (eqb a c) _ s in (
      leb-true n a (and_second (leb a 65536) _ t),
      sym (eqb-true a b (and_first _ _ e)),
      sym (eqb-true a c (and_first _ _ s)),
      leb-true a 65536 (and_first _ _ t),
    )

-- as many rows as places
pub beside_length : (ks : List ℕ) (ds ws : List Float) → length ds ≡ length ks → length ws ≡ length ks → length (beside ks ds ws) ≡ length ks
beside_length = by_length row

-- the row at place i, and those after it
pub row_at_lem :
    (ks : List ℕ) (ds ws : List Float) (n i : ℕ)
    → length ds ≡ length ks
    → length ws ≡ length ks
    → i < n
    → n ≤ length ks
    → drop i (rows_of ks ds ws n) ≡ row (get_or ks i 0) (get_or ds i nan) (get_or ws i nan) ∷ drop (suc i) (rows_of ks ds ws n)
row_at_lem ks ds ws n i = by_at row ks ds ws 0 nan nan n i

module _ (most : Float) (ks : List ℕ) (ds ws : List Float) (n i : ℕ) (p : length ds ≡ length ks) (q : length ws ≡ length ks) (g : n ≤ length ks) where
  abbrev left : ℕ → Bool
  left j = rows_ok most (drop j (rows_of ks ds ws n))

  -- a row that passes, one that fails, and no row left
  pub passes : i < n → row_ok most (get_or ks i 0) (get_or ds i nan) (get_or ws i nan) ≡ true → left i ≡ left (suc i)
  unfolding rows_ok
  passes h e = rw (row_at_lem ks ds ws n i p q h g, e)

  pub fails : i < n → row_ok most (get_or ks i 0) (get_or ds i nan) (get_or ws i nan) ≡ false → left i ≡ false
  unfolding rows_ok
  fails h e = rw (row_at_lem ks ds ws n i p q h g, e)

  pub done : n ≤ i → left i ≡ true
  unfolding rows_ok
  done h = rw (by_past row ks ds ws n i h)
