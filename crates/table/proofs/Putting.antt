-- A row put into a table, said of the three lists: a stored row's distance and weight are set, and a new row opens a place in each.
-- Assumes nothing.
use Rattle.std.specs.Prelude.{Some, None}
use mathlib.Core.Path.{◌≡◌, sym, ap, ◌∙◌}
use mathlib.Core.Bool.{true}
use mathlib.Core.List.{List, ◌∷◌, ◌++◌}
use Prim.Native.Nat.{ℕ, suc, ◌+◌, ◌<◌, ◌≤◌}
use native.Mathlib.Numerals.{add-one}
use native.Mathlib.Omega.{arith}
use borrow.Author.Tests.{lt-ltb, le-leb}
use lib.ListN.{length, take, drop, set, length-map, length-set, length-append, length-take, length-drop}
use lib.Seq.{length-take-le, get_or-take, set-get_or}
use lib.Ieee.{Float}
use Rattle.lists.specs.Places.{opened, inserted}
use Rattle.search.specs.Keys.{ascending, find, place_of}
use Rattle.table.specs.Table.{Row, row, Table, table, rows_of, lengths_ok, put, relaid}
use Rattle.search.proofs.KeyLaws.{found, place_length}
use Rattle.table.proofs.RowLaws.{lengths_known}
use Rattle.table.proofs.Laying.{columns, put_set, put_open, laid_set, laid_open}

-- equal parts make equal tables
pub same_table : {ks ks' : List ℕ} {ds ds' ws ws' : List Float} {n n' : ℕ} → ks ≡ ks' → ds ≡ ds' → ws ≡ ws' → n ≡ n' → table ks ds ws n ≡ table ks' ds' ws' n'
same_table p q r s = cc

opens : {A : Type 0} (l : List A) (n p : ℕ) (v : A) → p ≤ n → n < length l → opened l n p v ≡ inserted l n p v
opens l n p v h g = rw (le-leb p n h, lt-ltb n (length l) g)

longer : {A : Type 0} (l : List A) (p : ℕ) (v : A) → p ≤ length l → length (take p l ++ v ∷ drop p l) ≡ suc (length l)
longer l p v h = simp (length-append, length-take, length-drop) (omega arith)

module _ (ks : List ℕ) (ds ws : List Float) (n : ℕ) (known : lengths_ok (length ks) (length ds) (length ws) n ≡ true) where
  abbrev rs : List Row
  rs = rows_of ks ds ws n

  abbrev t : Table
  t = table ks ds ws n

  fit : (n ≤ length ks) × (length ds ≡ length ks) × (length ws ≡ length ks) × (length ks ≤ 65536)
  fit = lengths_known (length ks) (length ds) (length ws) n known

  -- a found place is a place of every list
  pub place_in : (k i : ℕ) → find k (take n ks) ≡ Some i → (i < length ds) × (i < length ws) × (i < 65536)
  place_in k i e =
      let f = fit in
      let h = found k (take n ks) i e in
      let l : i < n = rw (length-take-le n ks f.0) at h.0 in
      (omega arith, omega arith, omega arith)

  pub rows_length : length rs ≡ n
  rows_length =
      let f = fit in
      sym (length-map rs (λ (r : Row). r.key)) ∙ ap length (columns ks ds ws n f.1 f.2).0 ∙ length-take-le n ks f.0

  -- the row at i is changed in place
  pub relaid_set :
      ascending (take n ks) ≡ true
      → (k i : ℕ) (d w : Float)
      → find k (take n ks) ≡ Some i
      → relaid t (put (row k d w) rs) ≡ table ks (set ds i d) (set ws i w) n
  unfolding relaid
  relaid_set a k i d w e =
      let f = fit in
      let cs = columns ks ds ws n f.1 f.2 in
      let h = found k (take n ks) i e in
      let l : i < n = rw (length-take-le n ks f.0) at h.0 in
      let s : put (row k d w) rs ≡ set rs i (row k d w) = put_set (row k d w) rs i (rw cs.0 a) (rw rows_length l) (rw cs.0 h.1) in
      rw s (same_table
      (laid_set (λ (r : Row). r.key) rs ks n cs.0 i (row k d w) l f.0 ∙ rw (← (sym (get_or-take n ks i 0 l) ∙ h.1)) (set-get_or ks i 0))
      (laid_set (λ (r : Row). r.distance) rs ds n cs.1 i (row k d w) l (omega arith))
      (laid_set (λ (r : Row). r.weight) rs ws n cs.2 i (row k d w) l (omega arith))
      (length-set rs i (row k d w) ∙ rows_length))

  -- a new row opens a place
  pub relaid_open :
      (k : ℕ) (d w : Float)
      → find k (take n ks) ≡ None
      → n < length ks
      → (p : ℕ)
      → p ≡ place_of k (take n ks)
      → relaid t (put (row k d w) rs) ≡ table (inserted ks n p k) (inserted ds n p d) (inserted ws n p w) (n + 1)
  unfolding relaid
  relaid_open k d w e g p q =
      let f = fit in
      let cs = columns ks ds ws n f.1 f.2 in
      let l : p ≤ n = omega (arith, place_length k (take n ks), length-take-le n ks f.0) in
      let s : put (row k d w) rs ≡ take p rs ++ row k d w ∷ drop p rs = rw (q, ← cs.0) (put_open (row k d w) rs (rw cs.0 e)) in
      rw s (same_table
      (laid_open (λ (r : Row). r.key) rs ks n cs.0 p (row k d w) l g ∙ opens ks n p k l g)
      (laid_open (λ (r : Row). r.distance) rs ds n cs.1 p (row k d w) l (omega arith) ∙ opens ds n p d l (omega arith))
      (laid_open (λ (r : Row). r.weight) rs ws n cs.2 p (row k d w) l (omega arith) ∙ opens ws n p w l (omega arith))
      (longer rs p (row k d w) (rw rows_length l) ∙ rw (rows_length, add-one)))
