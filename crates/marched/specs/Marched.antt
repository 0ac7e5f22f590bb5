-- A marched table: rows side by side in two lists, ascending by key, and the tests before a question about it.
use Rattle.std.specs.Prelude.{ℕ, Bool, true, ◌&&◌, List, [], ◌∷◌, eqb, leb, length, take, Float, Ok, Err, Result}
use Rattle.floats.specs.Floats.{million, within, is_finite}
use Rattle.ids.specs.Key.{on_lattice}
use Rattle.refusals.specs.declared.Refusal.TheVariants.{Lengths, BadRow, OffLattice, BadReading}
use Rattle.search.specs.Keys.{ascending}
use Rattle.table.specs.Table.{need}
use Rattle.marching.specs.March.{MarchedRow, marched_row}
use Rattle.refusals.specs.declared.Refusal.{Refusal}

-- what a caller lends: two lists and how many of their places are rows
pub record MarchedTable : Type 0 where
  pub keys : List ℕ
  pub distances : List Float
  pub count : ℕ

abbrev pub marched_table : List ℕ → List Float → ℕ → MarchedTable
marched_table ks ds n = record { keys = ks; distances = ds; count = n }

-- two lists side by side, as far as both go
unfoldable pub pairs : List ℕ → List Float → List MarchedRow
pairs [] ds = []
pairs (k ∷ ks) [] = []
pairs (k ∷ ks) (d ∷ ds) = marched_row k d ∷ pairs ks ds

-- the rows of the first n places
abbrev pub marched_rows_of : List ℕ → List Float → ℕ → List MarchedRow
marched_rows_of ks ds n = take n (pairs ks ds)

abbrev pub marched_rows : MarchedTable → List MarchedRow
marched_rows t = marched_rows_of t.keys t.distances t.count

-- equal lengths of at most 1,048,576
abbrev pub pair_ok : ℕ → ℕ → Bool
pair_ok a b = eqb a b && leb a 1048576

-- and no more rows than places
abbrev pub marched_lengths_ok : ℕ → ℕ → ℕ → Bool
marched_lengths_ok a b n = pair_ok a b && leb n a

-- on the lattice, the distance at most 1,000,000 in size
abbrev pub marched_row_ok : ℕ → Float → Bool
marched_row_ok k d = on_lattice k && within million d

unfoldable pub marched_rows_ok : List MarchedRow → Bool
marched_rows_ok [] = true
marched_rows_ok (r ∷ rs) = marched_row_ok r.key r.distance && marched_rows_ok rs

-- every row is in range and the keys ascend
abbrev pub marched_ok : MarchedTable → Bool
marched_ok t = marched_rows_ok (marched_rows t) && ascending (take t.count t.keys)

-- refusals 2 and 3, in this order, then the rest
unfoldable pub marched_then : MarchedTable → Result (Unit {0}) Refusal → Result (Unit {0}) Refusal
unfolding need
marched_then t rest =
    need (marched_lengths_ok (length t.keys) (length t.distances) t.count) Lengths (need (marched_ok t) BadRow rest)

-- 2 and 3
abbrev pub marched_check : MarchedTable → Result (Unit {0}) Refusal
marched_check t = marched_then t (Ok tt)

-- 2, 3 and 4
abbrev pub key_check : MarchedTable → ℕ → Result (Unit {0}) Refusal
key_check t k = marched_then t (need (on_lattice k) OffLattice (Ok tt))

-- 2, 3, 4 and 5
abbrev pub free_check : MarchedTable → ℕ → Float → Result (Unit {0}) Refusal
free_check t k threshold = marched_then t (need (on_lattice k) OffLattice (need (is_finite threshold) BadReading (Ok tt)))

-- once the tests have passed, this is answered
unfoldable pub once_passed : {A : Type 0} → Result (Unit {0}) Refusal → A → Result A Refusal
once_passed (Ok tt) a = Ok a
once_passed (Err why) a = Err why

-- 2, of the lists to be filled too, 3 and 5
unfoldable pub list_check : MarchedTable → Bool → Float → Result (Unit {0}) Refusal
unfolding need
list_check t fit threshold =
    need (marched_lengths_ok (length t.keys) (length t.distances) t.count) Lengths
    (need fit Lengths (need (marched_ok t) BadRow (need (is_finite threshold) BadReading (Ok tt))))
