-- What a march over an accepted table gives, in one place: each promise by its own theorem, from what the tests say of the rows. Assumes nothing.
use Rattle.std.specs.Prelude.{Ok}
use mathlib.Core.Path.{◌≡◌, sym, ◌∙◌}
use mathlib.Core.Logic.{◌⊎◌}
use mathlib.Core.Bool.{Bool, true, cond}
use mathlib.Core.List.{List, [], ◌∷◌}
use Prim.Native.Nat.{ℕ}
use lib.Dec.{ltb, lit≤}
use lib.Ieee.{Float, lt, le, of_bits}
use Rattle.floats.specs.Floats.{zero32, thousand, million, within, positive_to}
use Rattle.floats.proofs.Order.{within_size}
use Rattle.floats.proofs.Sizes.{Small}
use Rattle.ids.specs.Key.{on_lattice}
use Rattle.lists.specs.Lists.{◌∈◌, All}
use Rattle.lists.proofs.Bools.{cases, and_first, and_second}
use Rattle.neighbors.specs.Neighbors.{neighbours}
use Rattle.neighbors.proofs.Adjacency.{adjacent_sym, neighbour_adjacent, adjacent_neighbour}
use Rattle.search.specs.Keys.{ascending}
use Rattle.table.specs.Table.{Row, Table, rows, row_ok, rows_ok, table_check}
use Rattle.table.specs.declared.Settings.{Settings}
use Rattle.table.specs.Rows.{keys_of as table_keys}
use Rattle.table.proofs.Laying.{columns}
use Rattle.table.proofs.RowLaws.{lengths_known}
use Rattle.table.proofs.SettingsLaws.{settings_known, farthest_known}
use Rattle.marching.specs.March.{MarchedRow, State, Rooms, on, diagonal, seeds, settled}
use Rattle.marching.specs.Lattice.{axial, length_at, lattice, march_from}
use Rattle.marching.specs.Promises.{From, Marches}
use Rattle.table.proofs.Checking.{sound}
use Rattle.marching.proofs.Sound.{after_on, Ended, takings_few}
use Rattle.marching.proofs.Bounded.{settled_within, march_within}
use Rattle.marching.proofs.Lattice.{seeds_all, lattice_ends, lattice_keeps}
use Rattle.marching.proofs.Small.{small_below, small_million, small_thousand, small_most, small_within, plain_positive, said_small}
use Rattle.marching.proofs.Hearing.{Sure, all_map, march_said}

-- ---- what the tests say

-- a row that passes is on the lattice and at most 1,000,000 in size
abbrev Fit : Row → Type 0
Fit r = (on_lattice r.key ≡ true) × (within million r.distance ≡ true)

rows_fit : (most : Float) (rs : List Row) → rows_ok most rs ≡ true → All Fit rs
unfolding rows_ok All
rows_fit most [] h = tt
rows_fit most (r ∷ rs) h =
    let a = and_first (row_ok most r.key r.distance r.weight) (rows_ok most rs) h in
    let b = and_second (on_lattice r.key) _ a in (
      (and_first (on_lattice r.key) _ a, and_first (within million r.distance) _ b),
      rows_fit most rs (and_second (row_ok most r.key r.distance r.weight) (rows_ok most rs) h),
    )

record Accepted (s : Settings) (t : Table) : Type 0 where
  size : positive_to thousand s.voxel_size.0 ≡ true
  most : (le zero32 s.max_distance.0 ≡ true) × (le s.max_distance.0 million ≡ true)
  fit : All Fit (rows t)
  ascends : ascending (table_keys (rows t)) ≡ true

accepted : (s : Settings) (t : Table) → table_check s t ≡ (Ok tt) → Accepted s t
accepted s t e =
    let k = sound s t e in
    let l = lengths_known _ _ _ _ k.lengths in
    let ranges = settings_known s k.settings in
    record {
      size = ranges.size;
      most = farthest_known s.max_distance.0 ranges.farthest;
      fit = rows_fit s.max_weight (rows t) k.ranges;
      ascends = rw (columns t.keys t.distances t.weights t.count l.1 l.2).0 k.order;
    }

-- ---- the lattice

-- its steps are at most 2
length_small : (p : ℕ) → Small 2 (length_at p)
unfolding length_at of_bits
length_small p = cases (λ (b : Bool). Small 2 (cond b diagonal axial)) (ltb p 8) (λ e. lit≤ tt) (λ e. lit≤ tt)

-- a neighbour's neighbour is the cell itself
pub back : (k l : ℕ) → l ∈ neighbours k → k ∈ neighbours l
back k l i = adjacent_neighbour l k (adjacent_sym l k ∙ neighbour_adjacent k l i)

module _ (size most : Float) (p : positive_to thousand size ≡ true) where
  sure : (d : Float) → Small 1000000 d → Sure (lattice size most) d
  sure d h k i =
      let u = plain_positive size (and_first (lt zero32 size) (le size thousand) p) in
      said_small size (length_at i) d
      (small_below size thousand 1000 u (and_second (lt zero32 size) (le size thousand) p) small_thousand) (length_small i) h

  settled_sure :
      (le zero32 most ≡ true) × (le most million ≡ true)
      → (ts : List MarchedRow) (k : ℕ)
      → Sure (lattice size most) (settled (lattice size most) ts k)
  settled_sure q ts k =
      sure (settled (lattice size most) ts k)
      (small_within (settled (lattice size most) ts k) most 1000000
      (sym (within_size most (settled (lattice size most) ts k)) ∙ settled_within (lattice size most) ts k q.0)
      (small_most most q.0 q.1))

-- ---- the promises

module _ (st : Settings) (t : Table) (m : Rooms) (threshold : Float) (s : State) where
  abbrev size : Float
  size = st.voxel_size.0

  abbrev most : Float
  most = st.max_distance.0

  pub marches :
      table_check st t ≡ (Ok tt)
      → march_from size most m threshold (rows t) ≡ on s
      → Marches (lattice size most) m (seeds threshold (rows t)) s
  marches c e =
      let a = accepted st t c in
      let g = march_from size most m threshold (rows t) in
      let h = after_on (Ended m) g s (lattice_ends size most m threshold (rows t) a.ascends) e in
      record {
        empty = h.empty;
        ascends = h.sound.ascends;
        lattice =
            after_on (λ (s : State). All (λ (r : MarchedRow). on_lattice r.key ≡ true) s.stored) g s
            (lattice_keeps size most m threshold (rows t)
            (all_map Fit (λ (r : Row). on_lattice r.key ≡ true) (rows t) (λ r f. f.0) a.fit)) e;
        within =
            after_on (λ (s : State).
            All (λ (r : MarchedRow). (r ∈ seeds threshold (rows t)) ⊎ (within most r.distance ≡ true))
            s.stored) g s (march_within (lattice size most) m (seeds threshold (rows t)) a.most.0) e;
        said =
            after_on (λ (s : State).
            All (λ (r : MarchedRow). (r ∈ seeds threshold (rows t)) ⊎ From (lattice size most) s.stored r)
            s.stored) g s
            (march_said (lattice size most) m back (settled_sure size most a.size a.most)
            (seeds threshold (rows t)) (seeds_sure a)) e;
        takings = (takings_few m s.takings s h.sound).0;
        fits = h.sound.rows_fit;
      }
    where
      seeds_sure : Accepted st t → All (λ (r : MarchedRow). Sure (lattice size most) r.distance) (seeds threshold (rows t))
      seeds_sure a =
          seeds_all threshold (λ (r : MarchedRow). Sure (lattice size most) r.distance) (rows t)
          (all_map Fit (λ (r : Row). Sure (lattice size most) r.distance) (rows t)
          (λ r f.
          sure size most a.size r.distance
          (small_within r.distance million 1000000 (sym (within_size million r.distance) ∙ f.1)
          small_million)) a.fit)
