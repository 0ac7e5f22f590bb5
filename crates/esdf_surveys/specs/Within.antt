-- The cells within a distance, in the table's order.
use Rattle.std.specs.Prelude.{Bool, List, ℕ, length, Float, Ok, Err, Result}
use Rattle.std.specs.Float.Ieee.{le}
use Rattle.floats.specs.Floats.{zero32, size_of}
use Rattle.lists.specs.Lists.{kept}
use Rattle.lists.specs.Listing.{room_for, held_for}
use Rattle.marching.specs.March.{MarchedRow, keys_of, distances_of}
use Rattle.marched.specs.Marched.{MarchedTable, marched_rows, pair_ok, list_check}
use Rattle.refusals.specs.declared.Refusal.{Refusal}

-- |distance| at most the threshold
abbrev pub is_within : Float → MarchedRow → Bool
is_within threshold r = le (size_of r.distance) threshold

abbrev pub cells_within : Float → List MarchedRow → List MarchedRow
cells_within threshold rs = kept (is_within threshold) rs

-- what passed goes on
unfoldable pub listed_said : Result (Unit {0}) Refusal → Result ℕ Refusal → Result ℕ Refusal
listed_said (Ok tt) l = l
listed_said (Err why) l = Err why

-- the answer to lists of these lengths
unfoldable pub within_listed : MarchedTable → Float → ℕ → ℕ → Result ℕ Refusal
within_listed t threshold a b = listed_said (list_check t (pair_ok a b) threshold) (room_for (length (cells_within threshold (marched_rows t))) a)

-- what the two lists then hold
abbrev pub within_keys : MarchedTable → Float → ℕ → ℕ → List ℕ
within_keys t threshold a b = held_for 0 (within_listed t threshold a b) a (keys_of (cells_within threshold (marched_rows t)))

abbrev pub within_distances : MarchedTable → Float → ℕ → ℕ → List Float
within_distances t threshold a b = held_for zero32 (within_listed t threshold a b) b (distances_of (cells_within threshold (marched_rows t)))
