-- Rows side by side in two lists: each place's row, the columns, and the tests of them. Assumes nothing.
use Rattle.std.specs.Prelude.{Ok, Err, Some, None, Option, Result}
use mathlib.Core.Path.{◌≡◌, refl, sym, ap, ◌∙◌}
use mathlib.Core.Bool.{Bool, true, false}
use mathlib.Core.List.{List, [], ◌∷◌}
use Prim.Native.Nat.{ℕ, zero, suc, ◌<◌, ◌≤◌}
use native.Mathlib.Nat.{not-suc-le-zero, le_of_suc-le-suc, suc-ne-zero, suc_inj}
use native.Mathlib.Omega.{arith}
use borrow.Author.Tests.{eqb-true, leb-true}
use lib.Dec.{eqb, leb}
use lib.ListN.{length, take, drop, get_or, length-map, length-take, drop_of_length-le}
use lib.Seq.{get_or-take, length-take-le}
use lib.Ieee.{Float, nan}
use Rattle.ids.specs.Key.{on_lattice}
use Rattle.lists.proofs.Bools.{and_first, and_second}
use Rattle.refusals.specs.declared.Refusal.{Refusal}
use Rattle.refusals.specs.declared.Refusal.TheVariants.{Lengths, BadRow, OffLattice}
use Rattle.search.specs.Keys.{find, find_by, ascending}
use Rattle.table.specs.Table.{need, then_test}
use Rattle.search.proofs.KeyLaws.{find_by-find, found}
use Rattle.marching.specs.March.{MarchedRow, marched_row, keys_of, distances_of, distance_of}
use Rattle.marching.proofs.Looking.{at, distance_find}
use Rattle.table.proofs.Checking.{need_passed}
use Rattle.marched.specs.Marched.{MarchedTable, marched_table, pairs, marched_rows_of, pair_ok, marched_lengths_ok, marched_row_ok, marched_rows_ok, marched_ok, marched_then, marched_check, key_check, list_check}
use Rattle.marched.specs.Steps.{Accepted}

-- ---- rows

-- the row at place i, and those after it
pub pair_at :
    (ks : List ℕ) (ds : List Float) (n i : ℕ)
    → length ds ≡ length ks
    → i < n
    → n ≤ length ks
    → drop i (marched_rows_of ks ds n) ≡ marched_row (get_or ks i 0) (get_or ds i nan) ∷ drop (suc i) (marched_rows_of ks ds n)
unfolding pairs
pair_at ks ds zero i p h g = absurd (not-suc-le-zero h)
pair_at [] ds (suc n) i p h g = absurd (not-suc-le-zero g)
pair_at (k ∷ ks) [] (suc n) i p h g = absurd (suc-ne-zero _ (sym p))
pair_at (k ∷ ks) (d ∷ ds) (suc n) zero p h g = refl
pair_at (k ∷ ks) (d ∷ ds) (suc n) (suc i) p h g = pair_at ks ds n i (suc_inj p) (le_of_suc-le-suc h) (le_of_suc-le-suc g)

-- no row is left
pub pair_end : (ks : List ℕ) (ds : List Float) (n i : ℕ) → n ≤ i → drop i (marched_rows_of ks ds n) ≡ []
pair_end ks ds n i h = drop_of_length-le (marched_rows_of ks ds n) {i = i} (rw length-take (omega arith))

-- their columns
pub pair_columns :
    (ks : List ℕ) (ds : List Float) (n : ℕ)
    → length ds ≡ length ks
    → (keys_of (marched_rows_of ks ds n) ≡ take n ks) × (distances_of (marched_rows_of ks ds n) ≡ take n ds)
unfolding pairs
pair_columns ks ds zero p = (refl, refl)
pair_columns [] [] (suc n) p = (refl, refl)
pair_columns [] (d ∷ ds) (suc n) p = absurd (suc-ne-zero _ p)
pair_columns (k ∷ ks) [] (suc n) p = absurd (suc-ne-zero _ (sym p))
pair_columns (k ∷ ks) (d ∷ ds) (suc n) p =
    let r = pair_columns ks ds n (suc_inj p) in
    (ap {B = List ℕ} (λ t. k ∷ t) r.0, ap {B = List Float} (λ t. d ∷ t) r.1)

-- there are n of them
pub pair_count : (ks : List ℕ) (ds : List Float) (n : ℕ) → length ds ≡ length ks → n ≤ length ks → length (marched_rows_of ks ds n) ≡ n
pair_count ks ds n p g =
    sym (length-map (marched_rows_of ks ds n) (λ (r : MarchedRow). r.key)) ∙ ap length (pair_columns ks ds n p).0 ∙ length-take-le n ks g

module _ (ks : List ℕ) (ds : List Float) (n i : ℕ) (p : length ds ≡ length ks) (g : n ≤ length ks) where
  -- a row that passes, one that fails, and no row left
  pub passes :
      i < n
      → marched_row_ok (get_or ks i 0) (get_or ds i nan) ≡ true
      → marched_rows_ok (drop i (marched_rows_of ks ds n)) ≡ marched_rows_ok (drop (suc i) (marched_rows_of ks ds n))
  unfolding marched_rows_ok
  passes h e = rw (pair_at ks ds n i p h g, e)

  pub fails : i < n → marched_row_ok (get_or ks i 0) (get_or ds i nan) ≡ false → marched_rows_ok (drop i (marched_rows_of ks ds n)) ≡ false
  unfolding marched_rows_ok
  fails h e = rw (pair_at ks ds n i p h g, e)

  pub done : n ≤ i → marched_rows_ok (drop i (marched_rows_of ks ds n)) ≡ true
  unfolding marched_rows_ok
  done h = rw (pair_end ks ds n i h)

-- ---- tests

pub lengths_known : (a b n : ℕ) → marched_lengths_ok a b n ≡ true → (n ≤ a) × (b ≡ a) × (a ≤ 1048576)
lengths_known a b n h =
    let s = and_first (pair_ok a b) (leb n a) h in (
      leb-true n a (and_second (pair_ok a b) (leb n a) h),
      sym (eqb-true a b (and_first (eqb a b) (leb a 1048576) s)),
      leb-true a 1048576 (and_second (eqb a b) (leb a 1048576) s),
    )

module _ (t : MarchedTable) where
  abbrev lengths : Bool
  lengths = marched_lengths_ok (length t.keys) (length t.distances) t.count

  -- what is tested after 2 and 3
  pub marched_follow : (rest : Result (Unit {0}) Refusal) → marched_then t rest ≡ then_test (marched_check t) rest
  unfolding marched_then need then_test
  marched_follow rest = two lengths (marched_ok t)
    where
      two : (a b : Bool) → need a Lengths (need b BadRow rest) ≡ then_test (need a Lengths (need b BadRow (Ok tt))) rest
      two true true = refl
      two true false = refl
      two false true = refl
      two false false = refl

  -- a refusal stands; what passed is tested on
  pub refuses_on : (v : Result (Unit {0}) Refusal) (rest : Result (Unit {0}) Refusal) {why : Refusal} → v ≡ marched_check t → v ≡ Err why → Err why ≡ marched_then t rest
  unfolding then_test
  refuses_on v rest e f = sym (marched_follow rest ∙ ap (λ (x : Result (Unit {0}) Refusal). then_test x rest) (sym e ∙ f))

  pub passes_on : (v : Result (Unit {0}) Refusal) (rest : Result (Unit {0}) Refusal) → v ≡ marched_check t → v ≡ (Ok tt) → rest ≡ marched_then t rest
  unfolding then_test
  passes_on v rest e f = sym (marched_follow rest ∙ ap (λ (x : Result (Unit {0}) Refusal). then_test x rest) (sym e ∙ f))

  -- the same after 4
  pub refuses_after :
      (v : Result (Unit {0}) Refusal) (k : ℕ) (rest : Result (Unit {0}) Refusal) {why : Refusal}
      → v ≡ key_check t k
      → v ≡ Err why
      → Err why ≡ marched_then t (need (on_lattice k) OffLattice rest)
  unfolding marched_then need
  refuses_after v k rest e f = sym (three lengths (marched_ok t) (on_lattice k) (sym e ∙ f))
    where
      three :
          (a b c : Bool) {why : Refusal}
          → need a Lengths (need b BadRow (need c OffLattice (Ok tt))) ≡ Err why
          → need a Lengths (need b BadRow (need c OffLattice rest)) ≡ Err why
      three true true true h = absurd (let z : ◌≡◌ {A = ℕ} 0 1 = cc in omega arith)
      three true true false h = h
      three true false c h = h
      three false b c h = h

  pub passes_after :
      (v : Result (Unit {0}) Refusal) (k : ℕ) (rest : Result (Unit {0}) Refusal)
      → v ≡ key_check t k
      → v ≡ (Ok tt)
      → rest ≡ marched_then t (need (on_lattice k) OffLattice rest)
  unfolding marched_then need
  passes_after v k rest e f = sym (three lengths (marched_ok t) (on_lattice k) (sym e ∙ f))
    where
      three :
          (a b c : Bool)
          → need a Lengths (need b BadRow (need c OffLattice (Ok tt))) ≡ (Ok tt)
          → need a Lengths (need b BadRow (need c OffLattice rest)) ≡ rest
      three true true true h = refl
      three true true false h = absurd (let z : ◌≡◌ {A = ℕ} 0 1 = cc in omega arith)
      three true false c h = absurd (let z : ◌≡◌ {A = ℕ} 0 1 = cc in omega arith)
      three false b c h = absurd (let z : ◌≡◌ {A = ℕ} 0 1 = cc in omega arith)

-- what passed
module _ (ks : List ℕ) (ds : List Float) (n : ℕ) where
  accepted_by : marched_lengths_ok (length ks) (length ds) n ≡ true → marched_ok (marched_table ks ds n) ≡ true → Accepted (marched_table ks ds n)
  accepted_by a b =
      let l = lengths_known (length ks) (length ds) n a in
      record { fits = l.0; distances = l.1; ascends = and_second (marched_rows_ok (marched_rows_of ks ds n)) (ascending (take n ks)) b }

  pub accepted : (v rest : Result (Unit {0}) Refusal) → v ≡ marched_then (marched_table ks ds n) rest → v ≡ (Ok tt) → Accepted (marched_table ks ds n)
  unfolding marched_then
  accepted v rest e f =
      let a = need_passed (marched_lengths_ok (length ks) (length ds) n) Lengths _ (sym e ∙ f) in
      accepted_by a.0 (need_passed (marched_ok (marched_table ks ds n)) BadRow _ a.1).0

  pub short : (v rest : Result (Unit {0}) Refusal) → v ≡ marched_then (marched_table ks ds n) rest → v ≡ (Ok tt) → length ks ≤ 1048576
  unfolding marched_then
  short v rest e f =
      (lengths_known (length ks) (length ds) n (need_passed (marched_lengths_ok (length ks) (length ds) n) Lengths _ (sym e ∙ f)).0).2

  pub may_list :
      (oks : List ℕ) (ods : List Float) (fit : Bool) (threshold : Float) (v : Result (Unit {0}) Refusal)
      → fit ≡ pair_ok (length oks) (length ods)
      → v ≡ list_check (marched_table ks ds n) fit threshold
      → v ≡ (Ok tt)
      → Accepted (marched_table ks ds n) × (length ks ≤ 1048576) × (length ods ≡ length oks)
  unfolding list_check
  may_list oks ods fit threshold v p e f =
      let a = need_passed (marched_lengths_ok (length ks) (length ds) n) Lengths _ (sym e ∙ f) in
      let b = need_passed fit Lengths _ a.1 in (
        accepted_by a.0 (need_passed (marched_ok (marched_table ks ds n)) BadRow _ b.1).0,
        (lengths_known (length ks) (length ds) n a.0).2,
        sym (eqb-true (length oks) (length ods) (and_first (eqb (length oks) (length ods)) (leb (length oks) 1048576) (sym p ∙ b.0))),
      )

-- ---- looking a cell up

module _ (ks : List ℕ) (ds : List Float) (n : ℕ) (h : Accepted (marched_table ks ds n)) (k : ℕ) (f : Option ℕ) (e : f ≡ find_by k (take n ks)) where
  is : f ≡ find k (take n ks)
  is = e ∙ find_by-find k (take n ks) h.ascends

  says : distance_of k (marched_rows_of ks ds n) ≡ at f (take n ds)
  says =
      let c = pair_columns ks ds n h.distances in
      distance_find k (marched_rows_of ks ds n)
      ∙ ap (λ (x : List ℕ). at (find k x) (distances_of (marched_rows_of ks ds n))) c.0
      ∙ ap (λ (x : Option ℕ). at x (distances_of (marched_rows_of ks ds n))) (sym is)
      ∙ ap (at f) c.1

  pub not_stored : f ≡ None → None ≡ distance_of k (marched_rows_of ks ds n)
  unfolding at
  not_stored a = sym (says ∙ ap (λ (x : Option ℕ). at x (take n ds)) a)

  module _ (i : ℕ) (a : f ≡ Some i) where
    below : i < n
    below = let q = found k (take n ks) i (sym is ∙ a) in let l = q.0 in rw (length-take-le n ks h.fits) at l

    pub in_distances : i < length ds
    in_distances = let b = below in let g = h.fits in let d = h.distances in omega arith

    pub is_stored : Some (get_or ds i nan) ≡ distance_of k (marched_rows_of ks ds n)
    unfolding at
    is_stored = ap Some (sym (get_or-take n ds i nan below)) ∙ sym (says ∙ ap (λ (x : Option ℕ). at x (take n ds)) a)
