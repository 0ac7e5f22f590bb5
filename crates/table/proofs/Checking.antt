-- What a table that passed the tests is: each test that passed says its own part.
-- Assumes nothing.
use Rattle.std.specs.Prelude.{Ok, Err, Result}
use mathlib.Core.Path.{◌≡◌, refl, sym, ap}
use mathlib.Core.Bool.{Bool, true, false, ◌&&◌}
use Prim.Native.Nat.{ℕ}
use native.Mathlib.Omega.{arith}
use lib.ListN.{length, take}
use Rattle.lists.proofs.Bools.{and_first, and_second}
use Rattle.refusals.specs.declared.Refusal.{Refusal}
use Rattle.refusals.specs.declared.Refusal.TheVariants.{Setting, Lengths, BadRow, NoPlace}
use Rattle.table.specs.declared.Settings.{Settings}
use Rattle.search.specs.Keys.{ascending}
use Rattle.table.specs.Table.{Table, settings_ok, lengths_ok, rows, rows_ok, table_ok, need, check_with, table_check, then_test}

pub need_passed : (b : Bool) (why : Refusal) (rest : Result (Unit {0}) Refusal) → need b why rest ≡ (Ok tt) → (b ≡ true) × (rest ≡ (Ok tt))
unfolding need
need_passed true why rest e = (refl, e)
need_passed false why rest e = let z : ◌≡◌ {A = ℕ} 0 1 = cc in absurd (omega arith)

-- settings in range, lists of equal length, rows in range, and ascending keys
pub record Sound (s : Settings) (t : Table) : Type 0 where
  pub settings : settings_ok s ≡ true
  pub lengths : lengths_ok (length t.keys) (length t.distances) (length t.weights) t.count ≡ true
  pub ranges : rows_ok s.max_weight (rows t) ≡ true
  pub order : ascending (take t.count t.keys) ≡ true

pub sound : (s : Settings) (t : Table) → table_check s t ≡ (Ok tt) → Sound s t
unfolding check_with
sound s t e =
    let a = need_passed (settings_ok s) _ _ e in
    let b = need_passed (lengths_ok (length t.keys) (length t.distances) (length t.weights) t.count) _ _ a.1 in
    let c = need_passed (table_ok s.max_weight t) _ _ b.1 in
    record {
      settings = a.0;
      lengths = b.0;
      ranges = and_first _ _ c.0;
      order = and_second (rows_ok s.max_weight (rows t)) _ c.0;
    }

-- ---- a call's tests

-- a call that passed lends lists of its own that fit, and a table that passes
pub with_passed : (fits : Bool) (s : Settings) (t : Table) → check_with fits s t ≡ (Ok tt) → (fits ≡ true) × (table_check s t ≡ (Ok tt))
unfolding check_with need
with_passed fits s t e =
    let a = need_passed (settings_ok s) _ _ e in
    let b = need_passed (fits && lengths_ok (length t.keys) (length t.distances) (length t.weights) t.count) _ _ a.1 in
    (and_first fits _ b.0, rw (a.0, and_second fits _ b.0) b.1)

-- where they fit, its tests are the table's
pub with_fit : (fits : Bool) (s : Settings) (t : Table) → fits ≡ true → check_with fits s t ≡ table_check s t
with_fit fits s t e = ap (λ (b : Bool). check_with b s t) e

-- what passed with a test after it passed both
pub went_on : (c rest : Result (Unit {0}) Refusal) → then_test c rest ≡ (Ok tt) → (c ≡ (Ok tt)) × (rest ≡ (Ok tt))
unfolding then_test
went_on (Ok tt) rest e = (refl, e)
went_on (Err why) rest e = let z : ◌≡◌ {A = ℕ} 0 1 = cc in absurd (omega arith)

-- ---- no test answers 6

pub not_passed : (why : Refusal) → ◌≡◌ {A = Result (Unit {0}) Refusal} (Err why) (Ok tt) → ⊥
not_passed why e = let z : ◌≡◌ {A = ℕ} 0 1 = cc in omega arith

other_refusal : (b : Bool) (why : Refusal) (rest : Result (Unit {0}) Refusal) → (why ≡ NoPlace → ⊥) → (rest ≡ Err NoPlace → ⊥) → need b why rest ≡ Err NoPlace → ⊥
unfolding need
other_refusal true why rest h g e = g e
other_refusal false why rest h g e = h (cc)

-- a test that answers 1, 2 or 3 adds no 6
pub setting_spares : (b : Bool) (rest : Result (Unit {0}) Refusal) → (rest ≡ Err NoPlace → ⊥) → need b Setting rest ≡ Err NoPlace → ⊥
setting_spares b rest = other_refusal b Setting rest (λ e. let z : ◌≡◌ {A = ℕ} 0 1 = cc in omega arith)

pub lengths_spare : (b : Bool) (rest : Result (Unit {0}) Refusal) → (rest ≡ Err NoPlace → ⊥) → need b Lengths rest ≡ Err NoPlace → ⊥
lengths_spare b rest = other_refusal b Lengths rest (λ e. let z : ◌≡◌ {A = ℕ} 0 1 = cc in omega arith)

pub row_spares : (b : Bool) (rest : Result (Unit {0}) Refusal) → (rest ≡ Err NoPlace → ⊥) → need b BadRow rest ≡ Err NoPlace → ⊥
row_spares b rest = other_refusal b BadRow rest (λ e. let z : ◌≡◌ {A = ℕ} 0 1 = cc in omega arith)

-- no test of a call does
pub with_spares : (fits : Bool) (s : Settings) (t : Table) → check_with fits s t ≡ Err NoPlace → ⊥
unfolding check_with
with_spares fits s t =
    setting_spares (settings_ok s) _
    (lengths_spare (fits && lengths_ok (length t.keys) (length t.distances) (length t.weights) t.count) _
    (row_spares (table_ok s.max_weight t) _ (λ e. not_passed NoPlace (sym e))))

pub table_spares : (s : Settings) (t : Table) → table_check s t ≡ Err NoPlace → ⊥
table_spares s t = with_spares true s t
