-- Loaded rows change nothing where they are settled, and those that wait are not in the table.
-- Assumes nothing.
use Rattle.std.specs.Prelude.{Some, None}
use mathlib.Core.Path.{◌≡◌, refl, sym, ap, ◌∙◌}
use mathlib.Core.Bool.{Bool, true, false, cond}
use mathlib.Core.List.{List, [], ◌∷◌}
use Prim.Native.Nat.{ℕ, zero, suc, ◌<◌, ◌≤◌, zero-le, suc-le-suc}
use native.Mathlib.Omega.{arith}
use lib.Dec.{ltb}
use lib.ListN.{length, get_or, take}
use Rattle.lists.specs.Beside.{beside_by}
use Rattle.lists.proofs.Bools.{cases}
use lib.Seq.{set-get_or, get_or-take, length-take-le}
use lib.Ieee.{Float, nan, le, lt, eq, odd, of_bits, of_fields}
use Rattle.floats.specs.Floats.{f32, zero32, between}
use Rattle.search.specs.Keys.{ascending, find}
use Rattle.table.specs.Table.{Row, row, Table, table, rows_of, rows, rows_ok, lengths_ok, put}
use Rattle.search.proofs.KeyLaws.{found}
use Rattle.table.proofs.RowLaws.{lengths_known}
use Rattle.table.proofs.Laying.{columns}
use Rattle.table.proofs.Putting.{rows_length, relaid_set}
use Rattle.table.proofs.Keeping.{at_ok, relaid_rows}
use Rattle.gathering.specs.Gathering.{standing, puts, below, above, seat_of, value_at, Loaded}
use Rattle.gathering.proofs.PutLaws.{by_first}
use Rattle.gathering.proofs.SeatLaws.{seat_find}
use Rattle.gathering.proofs.Filling.{at_any, filled_at}

-- the weight of a waiting row is below 0
mark_waits : (most : Float) → standing most (f32 0xBF80_0000) ≡ false
unfolding le lt eq of_bits of_fields odd
mark_waits most = refl

module _ (most : Float) (ks : List ℕ) (ds ws : List Float) (n : ℕ)
    (known : lengths_ok (length ks) (length ds) (length ws) n ≡ true) (a : ascending (take n ks) ≡ true) where
  abbrev t : Table
  t = table ks ds ws n

  abbrev seat : ℕ → ℕ
  seat k = seat_of k (take n ks)

  abbrev over : ℕ → Bool
  over k = ltb (below (seat k)) (above (seat k))

  -- the first m own rows, each with the values at its seat
  abbrev Each : List ℕ → List Float → List Float → ℕ → Type 0
  Each oks ods ows m =
      (i : ℕ) → i < m → (get_or ods i nan ≡ value_at ds zero32 (seat (get_or oks i 0))) × (get_or ows i nan ≡ value_at ws (f32 0xBF80_0000) (seat (get_or oks i 0)))

  each :
      (ss oks : List ℕ) (ods ows : List Float) (m : ℕ)
      → m ≤ length ss
      → m ≤ length ods
      → m ≤ length ows
      → Loaded t ss oks ods ows m
      → Each oks ods ows m
  each ss oks ods ows m p q r h i l =
      let s = filled_at seat 0 0 oks ss m i h.seats p l in (
        filled_at (λ (s : ℕ). value_at ds zero32 s) 0 nan ss ods m i h.distances q l ∙ ap (value_at ds zero32) s,
        filled_at (λ (s : ℕ). value_at ws (f32 0xBF80_0000) s) 0 nan ss ows m i h.weights r l ∙ ap (value_at ws (f32 0xBF80_0000)) s,
      )

  -- the row that stands there is put for nothing
  put_there : (k i : ℕ) (d w : Float) → find k (take n ks) ≡ Some i → put (row k (get_or ds i d) (get_or ws i w)) (rows t) ≡ rows t
  put_there k i d w e =
      sym (relaid_rows t (put (row k (get_or ds i d) (get_or ws i w)) (rows t)))
      ∙ ap (λ (u : Table). rows u) (relaid_set ks ds ws n known a k i (get_or ds i d) (get_or ws i w) e)
      ∙ rw (set-get_or ds i d, set-get_or ws i w)

  stands_there :
      (k : ℕ)
      → standing most (value_at ws (f32 0xBF80_0000) (seat k)) ≡ true
      → put (row k (value_at ds zero32 (seat k)) (value_at ws (f32 0xBF80_0000) (seat k))) (rows t) ≡ rows t
  unfolding value_at
  stands_there k =
      cases (λ (b : Bool).
      find k (take n ks) ≡ cond b (Some (below (seat k))) None
      → standing most (cond b (get_or ws (below (seat k)) (f32 0xBF80_0000)) (f32 0xBF80_0000)) ≡ true
      → put
      (row k (cond b (get_or ds (below (seat k)) zero32) zero32) (cond b (get_or ws (below (seat k)) (f32 0xBF80_0000)) (f32 0xBF80_0000)))
      (rows t)
      ≡ rows t) (over k)
      (λ c e s. put_there k (below (seat k)) zero32 (f32 0xBF80_0000) e)
      (λ c e s.
      let m = mark_waits most in
      let z : ◌≡◌ {A = ℕ} 0 1 = cc in
      absurd (omega arith))
      (seat_find k (take n ks) a)

  -- the table is as it was
  puts_each : (oks : List ℕ) (ods ows : List Float) (m : ℕ) → Each oks ods ows m → puts most (rows_of oks ods ows m) (rows t) ≡ rows t
  unfolding puts beside_by
  puts_each oks ods ows zero h = refl
  puts_each [] ods ows (suc m) h = refl
  puts_each (k ∷ oks) [] ows (suc m) h = refl
  puts_each (k ∷ oks) (d ∷ ods) [] (suc m) h = refl
  puts_each (k ∷ oks) (d ∷ ods) (w ∷ ows) (suc m) h =
      let rest = puts_each oks ods ows m (λ i l. h (suc i) (suc-le-suc l)) in
      let v = h 0 (suc-le-suc zero-le) in
      by_first most (λ (l : List Row). l ≡ rows t) (row k d w) (rows_of oks ods ows m) (rows t)
      (λ s. ap (put (row k d w)) rest ∙ rw (v.0, v.1) (stands_there k (rw v.1 at s)))
      (λ s. rest)

  -- a row that waits is not in the table
  waits_there : rows_ok most (rows t) ≡ true → (k : ℕ) → standing most (value_at ws (f32 0xBF80_0000) (seat k)) ≡ false → find k (take n ks) ≡ None
  unfolding value_at
  waits_there ok k =
      cases (λ (b : Bool).
      find k (take n ks) ≡ cond b (Some (below (seat k))) None
      → standing most (cond b (get_or ws (below (seat k)) (f32 0xBF80_0000)) (f32 0xBF80_0000)) ≡ false
      → find k (take n ks) ≡ None) (over k)
      (λ c e s.
      let f = lengths_known (length ks) (length ds) (length ws) n known in
      let i : ℕ = below (seat k) in
      let l : i < n = rw (length-take-le n ks f.0) at (found k (take n ks) i e).0 in
      let d = columns ks ds ws n f.1 f.2 in
      let b : between zero32 most (get_or ws i (f32 0xBF80_0000)) ≡ true =
      rw (at_any ws i (f32 0xBF80_0000) nan (omega arith), ← get_or-take n ws i nan l, ← d.2)
      (at_ok most (rows t) i ok (rw (rows_length ks ds ws n known) l)) in
      let z : ◌≡◌ {A = ℕ} 0 1 = cc in
      absurd (omega arith))
      (λ c e s. e)
      (seat_find k (take n ks) a)

  module _ (ss oks : List ℕ) (ods ows : List Float) (m : ℕ) (p : m ≤ length ss) (q : m ≤ length ods) (r : m ≤ length ows)
      (h : Loaded t ss oks ods ows m) where
    pub puts_loaded : puts most (rows_of oks ods ows m) (rows t) ≡ rows t
    puts_loaded = puts_each oks ods ows m (each ss oks ods ows m p q r h)

    pub waits_loaded : rows_ok most (rows t) ≡ true → (i : ℕ) → i < m → standing most (get_or ows i nan) ≡ false → find (get_or oks i 0) (take n ks) ≡ None
    waits_loaded ok i l s = waits_there ok (get_or oks i 0) (rw (each ss oks ods ows m p q r h i l).1 at s)
