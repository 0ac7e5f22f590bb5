-- Marching a fused table into lent lists: the tests before the march, and what stands in the lists after it.
use Rattle.std.specs.Prelude.{ℕ, Bool, ◌&&◌, List, length, replicate, Float, Ok, Err, Result}
use Rattle.floats.specs.Floats.{zero32, is_finite}
use Rattle.lists.specs.Padding.{padded}
use Rattle.refusals.specs.Refusals.{number_of}
use Rattle.refusals.specs.declared.Refusal.TheVariants.{BadReading}
use Rattle.table.specs.Table.{Table, rows, need, check_with, then_test}
use Rattle.table.specs.declared.Settings.{Settings}
use Rattle.marching.specs.March.{Going, on, refused, rooms, keys_of, distances_of}
use Rattle.marching.specs.Lattice.{march_from}
use Rattle.marched.specs.Marched.{pair_ok}
use Rattle.refusals.specs.declared.Refusal.{Refusal}

-- the lengths of the four lists that are filled: marched keys and distances, waiting estimates and keys
pub record Places : Type 0 where
  pub keys : ℕ
  pub distances : ℕ
  pub estimates : ℕ
  pub cells : ℕ

abbrev pub places : ℕ → ℕ → ℕ → ℕ → Places
places ks ds es cs = record { keys = ks; distances = ds; estimates = es; cells = cs }

-- the two lists of a set are equally long, and no longer than 1,048,576
abbrev pub places_ok : Places → Bool
places_ok p = pair_ok p.keys p.distances && pair_ok p.estimates p.cells

-- refusals 1, 2, 3 and 5, in this order; `fit` says that the lists to be filled pass
unfoldable pub march_check : Settings → Table → Float → Bool → Result (Unit {0}) Refusal
march_check s t threshold fit = then_test (check_with fit s t) (need (is_finite threshold) BadReading (Ok tt))

-- what passed goes on
unfoldable pub tested : Result (Unit {0}) Refusal → Going → Going
tested (Ok tt) g = g
tested (Err why) g = refused why

-- the tests, then the march, which is refused with 6 and 8 as its steps meet them
unfoldable pub marching : Settings → Table → Float → Places → Going
marching s t threshold p =
    tested (march_check s t threshold (places_ok p))
    (march_from s.voxel_size.0 s.max_distance.0 (rooms p.keys p.cells) threshold (rows t))

-- the answer: how many rows and takings, or the refusal
unfoldable pub answer_of : Going → Result (ℕ × ℕ) Refusal
answer_of (on s) = Ok (length s.stored, s.takings)
answer_of (refused why) = Err why

-- the marched lists hold the rows and then zeros; zeros throughout where it is refused
unfoldable pub keys_left : ℕ → Going → List ℕ
keys_left room (on s) = padded 0 room (keys_of s.stored)
keys_left room (refused why) = replicate room 0

unfoldable pub distances_left : ℕ → Going → List Float
distances_left room (on s) = padded zero32 room (distances_of s.stored)
distances_left room (refused why) = replicate room zero32

-- a march's answer, and the four lists after it
pub record Outcome : Type 0 where
  pub answer : Result (ℕ × ℕ) Refusal
  pub keys : List ℕ
  pub distances : List Float
  pub estimates : List Float
  pub cells : List ℕ

abbrev pub outcome : Result (ℕ × ℕ) Refusal → List ℕ → List Float → List Float → List ℕ → Outcome
outcome r ks ds es cs = record { answer = r; keys = ks; distances = ds; estimates = es; cells = cs }

-- what a march leaves: the waiting lists are zero throughout, however it ends
unfoldable pub left : Places → Going → Outcome
left p g =
    outcome (answer_of g) (keys_left p.keys g) (distances_left p.distances g) (replicate p.estimates zero32) (replicate p.cells 0)

abbrev pub computed : Settings → Table → Float → Places → Outcome
computed s t threshold p = left p (marching s t threshold p)

-- document 01's number of an answer, 0 where it is no refusal
abbrev pub marched_number : Result (ℕ × ℕ) Refusal → ℕ
marched_number (Ok (n, t)) = 0
marched_number (Err why) = number_of why

-- how many rows and how many takings an answer says, none where it is refused
abbrev pub rows_marched : Result (ℕ × ℕ) Refusal → ℕ
rows_marched (Ok (n, t)) = n
rows_marched (Err why) = 0

abbrev pub takings_marched : Result (ℕ × ℕ) Refusal → ℕ
takings_marched (Ok (n, t)) = t
takings_marched (Err why) = 0
