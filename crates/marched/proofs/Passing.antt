-- What a march over an accepted table stores passes the tests of a marched table: its keys ascend on the lattice, a seed's distance is a
-- row's, and any other is at most the maximum distance in size.
-- Assumes nothing.
use Rattle.std.specs.Prelude.{Ok}
use mathlib.Core.Path.{◌≡◌, refl, sym, ap, subst, ◌∙◌}
use mathlib.Core.Logic.{◌⊎◌, inl, inr, ⊎_elim}
use mathlib.Core.Bool.{Bool, true, ◌&&◌, ◌||◌}
use mathlib.Core.List.Memᴰ
use mathlib.Core.List.{List, [], ◌∷◌, ◌++◌}
use Prim.Native.Nat.{ℕ, ◌*◌, ◌≤◌}
use native.Mathlib.Omega.{arith}
use borrow.Author.Tests.{ltb-false, eq-eqb, le-leb}
use lib.Dec.{ltb, eqb}
use lib.ListN.{length, take, length-map}
use lib.Ieee.{Float, nan, inf, fin, up, down, lt, eq, le, of_bits}
use Rattle.floats.specs.Floats.{zero32, million, within}
use Rattle.floats.proofs.Order.{within_size}
use Rattle.floats.proofs.Sizes.{Small}
use Rattle.ids.specs.Key.{on_lattice}
use Rattle.lists.specs.Lists.{◌∈◌, All}
use Rattle.lists.specs.Padding.{padded}
use Rattle.lists.proofs.Bools.{cases, and_first, and_second}
use Rattle.lists.proofs.PaddingLaws.{padded_length, padded_front}
use Rattle.table.specs.Table.{Row, Table, rows, row_ok, rows_ok, need, table_check}
use Rattle.table.specs.declared.Settings.{Settings}
use Rattle.table.proofs.Checking.{sound}
use Rattle.table.proofs.SettingsLaws.{settings_known, farthest_known}
use Rattle.marching.specs.March.{MarchedRow, State, Rooms, on, keys_of, distances_of, seeds}
use Rattle.marching.specs.Lattice.{march_from}
use Rattle.marching.proofs.Lattice.{seeds_all}
use Rattle.marching.proofs.Small.{small_most, small_within}
use Rattle.marching.proofs.Facts.{marches}
use Rattle.marched.specs.Marched.{marched_table, pairs, marched_rows_of, marched_rows_ok, marched_then, marched_check}

-- ---- at most 1,000,000 in size

at_most : (a b : ℕ) (t : Bool) → t ≡ true → a ≤ b → (ltb a b || (eqb a b && t)) ≡ true
at_most a b t e h =
    cases (λ (x : Bool). (x || (eqb a b && t)) ≡ true) (ltb a b) (λ q. refl)
    (λ q. let g = ltb-false a b q in rw (eq-eqb a b (omega arith), e))

within_small : (d : Float) → Small 1000000 d → within million d ≡ true
unfolding le lt eq of_bits
within_small nan h = absurd h
within_small (inf s) h = absurd h
within_small (fin s n g) h = within_size million (fin s n g) ∙ at_most (n * up g * 1) (1000000 * down g) _ refl (omega arith)

-- ---- the rows

each : {A : Type 0} (P : A → Type 0) (l : List A) (x : A) → All P l → x ∈ l → P x
unfolding All
each P [] x h m = absurd (Memᴰ.not-nil m)
each P (y ∷ ys) x h m = ⊎_elim (λ e. subst P (sym e) h.0) (λ t. each P ys x h.1 t) (Memᴰ.cases_cons m)

-- rows that pass are at most 1,000,000 in size
rows_within : (most : Float) (rs : List Row) → rows_ok most rs ≡ true → All (λ (r : Row). within million r.distance ≡ true) rs
unfolding rows_ok All
rows_within most [] h = tt
rows_within most (r ∷ rs) h =
    let a = and_first (row_ok most r.key r.distance r.weight) (rows_ok most rs) h in (
      and_first (within million r.distance) _ (and_second (on_lattice r.key) _ a),
      rows_within most rs (and_second (row_ok most r.key r.distance r.weight) (rows_ok most rs) h),
    )

-- rows each of which passes
rows_pass : (ss rs : List MarchedRow) (most : Float)
    → All (λ (r : MarchedRow). on_lattice r.key ≡ true) rs
    → All (λ (r : MarchedRow). (r ∈ ss) ⊎ (within most r.distance ≡ true)) rs
    → All (λ (r : MarchedRow). within million r.distance ≡ true) ss
    → Small 1000000 most
    → marched_rows_ok rs ≡ true
unfolding All marched_rows_ok
rows_pass ss [] most l w h m = refl
rows_pass ss (r ∷ rs) most l w h m =
    rw (l.0, fits w.0, rows_pass ss rs most l.1 w.1 h m)
  where
    fits : (r ∈ ss) ⊎ (within most r.distance ≡ true) → within million r.distance ≡ true
    fits (inl i) = each (λ (q : MarchedRow). within million q.distance ≡ true) ss r h i
    fits (inr e) = within_small r.distance (small_within r.distance most 1000000 (sym (within_size most r.distance) ∙ e) m)

-- ---- the lists that hold them

pairs_front : (rs : List MarchedRow) (ks : List ℕ) (ds : List Float) → marched_rows_of (keys_of rs ++ ks) (distances_of rs ++ ds) (length rs) ≡ rs
unfolding pairs
pairs_front [] ks ds = refl
pairs_front (r ∷ rs) ks ds = ap (λ (l : List MarchedRow). r ∷ l) (pairs_front rs ks ds)

-- What a march stores, in two lists of one length and then zeros, passes the tests of a marched table.
pub march_passes :
    (st : Settings) (t : Table) (m : Rooms) (threshold : Float) (s : State)
    → table_check st t ≡ (Ok tt)
    → march_from st.voxel_size.0 st.max_distance.0 m threshold (rows t) ≡ on s
    → m.rows ≤ 1048576
    → marched_check (marched_table (padded 0 m.rows (keys_of s.stored)) (padded zero32 m.rows (distances_of s.stored)) (length s.stored)) ≡ (Ok tt)
unfolding marched_then need padded
march_passes st t m threshold s c e few =
    let h = marches st t m threshold s c e in
    let k = sound st t c in
    let far = farthest_known st.max_distance.0 (settings_known st k.settings).farthest in
    let long-keys = padded_length 0 m.rows (keys_of s.stored) (rw length-map h.fits) in
    let long-distances = padded_length zero32 m.rows (distances_of s.stored) (rw length-map h.fits) in
    let front : take (length s.stored) (padded 0 m.rows (keys_of s.stored)) ≡ keys_of s.stored =
    ap (λ (i : ℕ). take i (padded 0 m.rows (keys_of s.stored))) (sym (length-map s.stored (λ (r : MarchedRow). r.key)))
    ∙ padded_front 0 m.rows (keys_of s.stored) in
    let passes =
    rows_pass (seeds threshold (rows t)) s.stored st.max_distance.0 h.lattice h.within
    (seeds_all threshold (λ (r : MarchedRow). within million r.distance ≡ true) (rows t) (rows_within st.max_weight (rows t) k.ranges))
    (small_most st.max_distance.0 far.0 far.1) in
    rw (
      long-keys,
      long-distances,
      eq-eqb m.rows m.rows refl,
      le-leb m.rows 1048576 few,
      le-leb (length s.stored) m.rows h.fits,
      pairs_front s.stored _ _,
      passes,
      front,
      h.ascends,
    )
