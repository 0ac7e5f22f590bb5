-- An answered march leaves two lists that every call on a marched table takes. Assumes nothing.
use Rattle.std.specs.Prelude.{Ok, Err, Result}
use mathlib.Core.Path.{◌≡◌, refl, subst, ap}
use Prim.Native.Nat.{ℕ}
use native.Mathlib.Omega.{arith}
use borrow.Author.Tests.{leb-true, eqb-true}
use lib.Dec.{eqb}
use lib.ListN.{length}
use lib.Ieee.{Float}
use Rattle.floats.specs.Floats.{zero32, is_finite}
use Rattle.lists.specs.Padding.{padded}
use Rattle.lists.proofs.Bools.{and_first, and_second}
use Rattle.refusals.specs.declared.Refusal.TheVariants.{BadReading}
use Rattle.table.specs.Table.{Table, rows, need, check_with}
use Rattle.table.specs.declared.Settings.{Settings}
use Rattle.table.proofs.Checking.{with_passed, went_on}
use Rattle.marching.specs.March.{State, Going, on, refused, rooms, keys_of, distances_of}
use Rattle.marching.specs.Lattice.{march_from}
use Rattle.marched.specs.Marched.{marched_table, marched_check, pair_ok}
use Rattle.marched.proofs.Passing.{march_passes}
use Rattle.esdf.specs.Compute.{Places, places_ok, march_check, tested, marching, answer_of, keys_left, distances_left, left, computed}
use Rattle.refusals.specs.declared.Refusal.{Refusal}

module _ (p : Places) (n k : ℕ) where
  -- where the lists that a state gives pass, those of an answered march do
  answered_passes :
      (v : Result (Unit {0}) Refusal) (g : Going)
      → (v ≡ (Ok tt)
      → (s : State)
      → g ≡ on s
      → marched_check (marched_table (padded 0 p.keys (keys_of s.stored)) (padded zero32 p.distances (distances_of s.stored)) (length s.stored))
      ≡ (Ok tt))
      → answer_of (tested v g) ≡ Ok (n, k)
      → marched_check (marched_table (keys_left p.keys (tested v g)) (distances_left p.distances (tested v g)) n) ≡ (Ok tt)
  unfolding tested answer_of keys_left distances_left
  answered_passes (Ok tt) (on s) h e =
      let both : ◌≡◌ {A = ℕ × ℕ} (length s.stored, s.takings) (n, k) = cc in
      let same = ap (λ (x : ℕ × ℕ). x.0) both in
      subst (λ (i : ℕ).
      marched_check (marched_table (padded 0 p.keys (keys_of s.stored)) (padded zero32 p.distances (distances_of s.stored)) i)
      ≡ (Ok tt)) same (h refl s refl)
  answered_passes (Ok tt) (refused why) h e = let z : ◌≡◌ {A = ℕ} 0 1 = cc in absurd (omega arith)
  answered_passes (Err why) g h e = let z : ◌≡◌ {A = ℕ} 0 1 = cc in absurd (omega arith)

  -- Answered with n rows and k takings, the two lists pass the tests of a marched table of n rows.
  pub computed_passes :
      (s : Settings) (t : Table) (threshold : Float)
      → (computed s t threshold p).answer ≡ Ok (n, k)
      → marched_check (marched_table (computed s t threshold p).keys (computed s t threshold p).distances n) ≡ (Ok tt)
  unfolding left marching march_check
  computed_passes s t threshold e =
      answered_passes (march_check s t threshold (places_ok p))
      (march_from s.voxel_size.0 s.max_distance.0 (rooms p.keys p.cells) threshold (rows t))
      (λ v st g.
      let a = with_passed (places_ok p) s t (went_on (check_with (places_ok p) s t) (need (is_finite threshold) BadReading (Ok tt)) v).0 in
      let pair = and_first (pair_ok p.keys p.distances) _ a.0 in
      let same = eqb-true p.keys p.distances (and_first (eqb p.keys p.distances) _ pair) in
      let few = leb-true p.keys 1048576 (and_second (eqb p.keys p.distances) _ pair) in
      rw (← same) (march_passes s t (rooms p.keys p.cells) threshold st a.1 g few)) e
