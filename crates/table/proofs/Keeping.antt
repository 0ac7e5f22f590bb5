-- A row in range, put into a table that passes, leaves a table that passes: the other rows stand, and the keys still ascend.
-- Assumes nothing.
use Rattle.std.specs.Prelude.{Ok}
use mathlib.Core.Path.{◌≡◌, refl, sym, ap}
use mathlib.Core.Bool.{Bool, true, cond}
use mathlib.Core.List.{List, [], ◌∷◌, ◌++◌}
use Prim.Native.Nat.{ℕ, zero, suc, ◌<◌, ◌≤◌, zero-le, suc-le-suc}
use native.Mathlib.Nat.{not-suc-le-zero, le_of_suc-le-suc}
use native.Mathlib.Omega.{arith}
use borrow.Author.Tests.{lt-ltb, ltb-true, ltb-false, eq-eqb, eqb-true, eqb-false, le-leb}
use lib.Dec.{ltb, eqb}
use lib.ListN.{length, get_or, take, drop, length-append, length-drop, length-map}
use lib.Seq.{take_at}
use lib.Ieee.{Float, nan}
use Rattle.lists.specs.Beside.{beside_by}
use Rattle.floats.specs.Floats.{zero32, million, between, within}
use Rattle.ids.specs.Key.{on_lattice}
use Rattle.lists.proofs.Bools.{and_first, and_second, cases}
use Rattle.table.specs.declared.Settings.{Settings}
use Rattle.search.specs.Keys.{rises_from, ascending}
use Rattle.table.specs.Table.{Row, Table, rows_of, rows, put, laid, relaid, row_ok, rows_ok, lengths_ok, need, check_with, table_check}
use Rattle.table.proofs.RowLaws.{lengths_known}
use Rattle.table.specs.Rows.{keys_of}
use Rattle.table.proofs.Laying.{distances_of, weights_of}
use Rattle.table.proofs.Checking.{sound}

-- ---- putting a row

-- rows in range with one in range
pub put-rows_ok :
    (most : Float) (r : Row) (rs : List Row)
    → row_ok most r.key r.distance r.weight ≡ true
    → rows_ok most rs ≡ true
    → rows_ok most (put r rs) ≡ true
unfolding put rows_ok
put-rows_ok most r [] h g = rw h
put-rows_ok most r (s ∷ rs) h g =
    let a = and_first (row_ok most s.key s.distance s.weight) (rows_ok most rs) g in
    let b = and_second (row_ok most s.key s.distance s.weight) (rows_ok most rs) g in
    cases (λ (t : Bool). rows_ok most (cond t (s ∷ put r rs) (cond (eqb s.key r.key) (r ∷ rs) (r ∷ (s ∷ rs)))) ≡ true) (ltb s.key r.key)
    (λ e. rw (a, put-rows_ok most r rs h b))
    (λ e.
    cases (λ (t : Bool). rows_ok most (cond t (r ∷ rs) (r ∷ (s ∷ rs))) ≡ true) (eqb s.key r.key)
    (λ q. rw (h, b))
    (λ q. rw (h, a, b)))

-- ascending keys from k on, with one above k
put_rises : (k : ℕ) (r : Row) (rs : List Row) → k < r.key → rises_from k (keys_of rs) ≡ true → rises_from k (keys_of (put r rs)) ≡ true
unfolding put rises_from
put_rises k r [] h g = rw (lt-ltb k r.key h)
put_rises k r (s ∷ rs) h g =
    let a = and_first (ltb k s.key) (rises_from s.key (keys_of rs)) g in
    let b = and_second (ltb k s.key) (rises_from s.key (keys_of rs)) g in
    cases (λ (t : Bool). rises_from k (keys_of (cond t (s ∷ put r rs) (cond (eqb s.key r.key) (r ∷ rs) (r ∷ (s ∷ rs))))) ≡ true) (ltb s.key r.key)
    (λ e. rw (a, put_rises s.key r rs (ltb-true s.key r.key e) b))
    (λ e.
    cases (λ (t : Bool). rises_from k (keys_of (cond t (r ∷ rs) (r ∷ (s ∷ rs)))) ≡ true) (eqb s.key r.key)
    (λ q. rw (lt-ltb k r.key h, ← eqb-true s.key r.key q) b)
    (λ q.
    let ne : s.key ≡ r.key → ⊥ = eqb-false s.key r.key q in
    let le : r.key ≤ s.key = ltb-false s.key r.key e in
    rw (lt-ltb k r.key h, lt-ltb r.key s.key (omega arith), b)))

pub put_ascends : (r : Row) (rs : List Row) → ascending (keys_of rs) ≡ true → ascending (keys_of (put r rs)) ≡ true
unfolding put ascending rises_from
put_ascends r [] g = refl
put_ascends r (s ∷ rs) g =
    cases (λ (t : Bool). ascending (keys_of (cond t (s ∷ put r rs) (cond (eqb s.key r.key) (r ∷ rs) (r ∷ (s ∷ rs))))) ≡ true) (ltb s.key r.key)
    (λ e. put_rises s.key r rs (ltb-true s.key r.key e) g)
    (λ e.
    cases (λ (t : Bool). ascending (keys_of (cond t (r ∷ rs) (r ∷ (s ∷ rs)))) ≡ true) (eqb s.key r.key)
    (λ q. rw (← eqb-true s.key r.key q) g)
    (λ q.
    let ne : s.key ≡ r.key → ⊥ = eqb-false s.key r.key q in
    let le : r.key ≤ s.key = ltb-false s.key r.key e in
    rw (lt-ltb r.key s.key (omega arith), g)))

-- ---- the rows that were laid are the rows that are read

pub read_back : (rs : List Row) (a : List ℕ) (b c : List Float) → rows_of (keys_of rs ++ a) (distances_of rs ++ b) (weights_of rs ++ c) (length rs) ≡ rs
unfolding beside_by
read_back [] a b c = refl
read_back (r ∷ rs) a b c = ap {B = List Row} (λ t. r ∷ t) (read_back rs a b c)

pub relaid_rows : (t : Table) (rs : List Row) → rows (relaid t rs) ≡ rs
unfolding relaid
relaid_rows t rs = read_back rs _ _ _

pub relaid_keys : (t : Table) (rs : List Row) → take (relaid t rs).count (relaid t rs).keys ≡ keys_of rs
unfolding relaid
relaid_keys t rs = take_at (keys_of rs) (drop (length (keys_of rs)) t.keys) (length rs) (length-map rs (λ (r : Row). r.key))

laid_length : {A : Type 0} (vs l : List A) → length vs ≤ length l → length (laid vs l) ≡ length l
laid_length vs l h = simp (length-append, length-drop) (omega arith)

pub lengths_say : (a b c n : ℕ) → n ≤ a → b ≡ a → c ≡ a → a ≤ 65536 → lengths_ok a b c n ≡ true
lengths_say a b c n h p q g = rw (eq-eqb a b (sym p), eq-eqb a c (sym q), le-leb a 65536 g, le-leb n a h)

-- a table that passes, with other rows that pass
pub relaid_check :
    (s : Settings) (t : Table) (rs : List Row)
    → table_check s t ≡ (Ok tt)
    → length rs ≤ length t.keys
    → rows_ok s.max_weight rs ≡ true
    → ascending (keys_of rs) ≡ true
    → table_check s (relaid t rs) ≡ (Ok tt)
unfolding check_with need relaid
relaid_check s t rs e h g a =
    let k = sound s t e in
    let f = lengths_known (length t.keys) (length t.distances) (length t.weights) t.count k.lengths in
    let l1 : length (relaid t rs).keys ≡ length t.keys = laid_length (keys_of rs) t.keys (rw length-map h) in
    let l2 : length (relaid t rs).distances ≡ length t.distances = laid_length (distances_of rs) t.distances (rw (length-map, f.1) h) in
    let l3 : length (relaid t rs).weights ≡ length t.weights = laid_length (weights_of rs) t.weights (rw (length-map, f.2) h) in
    rw (
      k.settings,
      l1,
      l2,
      l3,
      lengths_say (length t.keys) (length t.distances) (length t.weights) (length rs) h f.1 f.2 f.3,
      relaid_rows t rs,
      relaid_keys t rs,
      g,
      a,
    )

-- ---- the row that fusing puts

-- the row at i of rows that pass
pub at_ok : (most : Float) (rs : List Row) (i : ℕ) → rows_ok most rs ≡ true → i < length rs → between zero32 most (get_or (weights_of rs) i nan) ≡ true
unfolding rows_ok
at_ok most [] i h g = absurd (not-suc-le-zero g)
at_ok most (r ∷ rs) zero h g =
    and_second (within million r.distance) _
    (and_second (on_lattice r.key) _ (and_first (row_ok most r.key r.distance r.weight) (rows_ok most rs) h))
at_ok most (r ∷ rs) (suc i) h g =
    at_ok most rs i (and_second (row_ok most r.key r.distance r.weight) (rows_ok most rs) h) (le_of_suc-le-suc g)

pub put_length : (r : Row) (rs : List Row) → length (put r rs) ≤ suc (length rs)
unfolding put
put_length r [] = suc-le-suc zero-le
put_length r (s ∷ rs) =
    cases (λ (t : Bool). length (cond t (s ∷ put r rs) (cond (eqb s.key r.key) (r ∷ rs) (r ∷ (s ∷ rs)))) ≤ suc (suc (length rs))) (ltb s.key r.key)
    (λ e. suc-le-suc (put_length r rs))
    (λ e.
    cases (λ (t : Bool). length (cond t (r ∷ rs) (r ∷ (s ∷ rs))) ≤ suc (suc (length rs))) (eqb s.key r.key)
    (λ q. omega arith)
    (λ q. omega arith))
