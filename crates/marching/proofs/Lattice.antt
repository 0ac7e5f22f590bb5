-- The march on the lattice, from a table's rows: the seeds of ascending rows ascend, and neighbours of lattice keys are on the lattice. Assumes nothing.
use mathlib.Core.Path.{◌≡◌, refl}
use mathlib.Core.Bool.{Bool, true, cond}
use mathlib.Core.List.{List, [], ◌∷◌}
use Prim.Native.Nat.{ℕ, ◌<◌}
use native.Mathlib.Nat.{lt_trans}
use borrow.Author.Tests.{ltb-true, lt-ltb}
use lib.Dec.{ltb}
use lib.Ieee.{Float}
use Rattle.ids.specs.Key.{on_lattice}
use Rattle.neighbors.specs.Neighbors.{neighbours}
use Rattle.neighbors.proofs.Adjacency.{neighbour_on_lattice}
use Rattle.search.specs.Keys.{rises_from, ascending}
use Rattle.table.specs.Table.{Row}
use Rattle.marching.specs.March.{MarchedRow, Rooms, keys_of, is_seed, seeds}
use Rattle.marching.specs.Lattice.{lattice, march_from}
use Rattle.table.specs.Rows.{keys_of as table_keys}
use Rattle.lists.proofs.Bools.{cases, and_first, and_second}
use Rattle.lists.specs.Lists.{All}
use Rattle.lists.proofs.Inserting.{among}
use Rattle.marching.proofs.Sound.{After, Ended, march_ends}
use Rattle.marching.proofs.Rows.{march_rows}

-- ---- the seeds of ascending rows ascend

rises_lower : (j k : ℕ) (ks : List ℕ) → j < k → rises_from k ks ≡ true → rises_from j ks ≡ true
unfolding rises_from
rises_lower j k [] l h = refl
rises_lower j k (x ∷ xs) l h =
    rw (lt-ltb j x (lt_trans l (ltb-true k x (and_first (ltb k x) (rises_from x xs) h)))) (and_second (ltb k x) (rises_from x xs) h)

module _ (t : Float) where
  seeds_rise : (j : ℕ) (rs : List Row) → rises_from j (table_keys rs) ≡ true → rises_from j (keys_of (seeds t rs)) ≡ true
  unfolding seeds rises_from
  seeds_rise j [] h = refl
  seeds_rise j (r ∷ rs) h =
      let f = and_first (ltb j r.key) (rises_from r.key (table_keys rs)) h in
      let g = and_second (ltb j r.key) (rises_from r.key (table_keys rs)) h in
      cases (λ (b : Bool). rises_from j (keys_of (cond b (record { key = r.key; distance = r.distance } ∷ seeds t rs) (seeds t rs))) ≡ true) (is_seed t r)
      (λ e. rw f (seeds_rise r.key rs g))
      (λ e. seeds_rise j rs (rises_lower j r.key (table_keys rs) (ltb-true _ _ f) g))

  pub seeds_ascend : (rs : List Row) → ascending (table_keys rs) ≡ true → ascending (keys_of (seeds t rs)) ≡ true
  unfolding seeds ascending rises_from
  seeds_ascend [] h = refl
  seeds_ascend (r ∷ rs) h =
      cases (λ (b : Bool). ascending (keys_of (cond b (record { key = r.key; distance = r.distance } ∷ seeds t rs) (seeds t rs))) ≡ true) (is_seed t r)
      (λ e. seeds_rise r.key rs h)
      (λ e. seeds_ascend rs (tail r.key (table_keys rs) h))
    where
      tail : (k : ℕ) (ks : List ℕ) → rises_from k ks ≡ true → ascending ks ≡ true
      tail k [] h = refl
      tail k (l ∷ ks) h = and_second (ltb k l) (rises_from l ks) h

  -- what holds of every row holds of every seed
  pub seeds_all : (P : MarchedRow → Type 0) (rs : List Row) → All (λ (r : Row). P (record { key = r.key; distance = r.distance })) rs → All P (seeds t rs)
  unfolding seeds All
  seeds_all P [] h = tt
  seeds_all P (r ∷ rs) h =
      cases (λ (b : Bool). All P (cond b (record { key = r.key; distance = r.distance } ∷ seeds t rs) (seeds t rs))) (is_seed t r)
      (λ e. (h.0, seeds_all P rs h.1))
      (λ e. seeds_all P rs h.1)

-- ---- the march

module _ (size most : Float) (m : Rooms) (t : Float) (rs : List Row) where
  -- it ends, with rows ascending and no more takings than rows
  pub lattice_ends : ascending (table_keys rs) ≡ true → After (Ended m) (march_from size most m t rs)
  lattice_ends a = march_ends m (lattice size most) (seeds t rs) (seeds_ascend t rs a)

  -- every row is on the lattice
  pub lattice_keeps :
      All (λ (r : Row). on_lattice r.key ≡ true) rs
      → After (λ s. All (λ (r : MarchedRow). on_lattice r.key ≡ true) s.stored) (march_from size most m t rs)
  unfolding All
  lattice_keeps h =
      march_rows (lattice size most) m (λ k. on_lattice k ≡ true) (λ (r : MarchedRow). on_lattice r.key ≡ true)
      (λ k u. among (λ l. on_lattice l ≡ true) (neighbours k) (λ l i. neighbour_on_lattice k l u i))
      (λ ts k u. u)
      (seeds t rs)
      (seeds_all t (λ (r : MarchedRow). (on_lattice r.key ≡ true) × (on_lattice r.key ≡ true)) rs (twice rs h))
    where
      twice :
          (rs : List Row)
          → All (λ (r : Row). on_lattice r.key ≡ true) rs
          → All (λ (r : Row). (on_lattice r.key ≡ true) × (on_lattice r.key ≡ true)) rs
      twice [] h = tt
      twice (r ∷ rs) h = ((h.0, h.0), twice rs h.1)
