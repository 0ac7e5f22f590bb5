-- The cells near the surface, in the table's order, into a lent list.
use Rattle.std.specs.Prelude.{ℕ, Bool, ◌&&◌, List, map, leb, length, Float, Ok, Err, Result}
use Rattle.std.specs.Float.Ieee.{lt}
use Rattle.floats.specs.Floats.{zero32, size_of, is_finite}
use Rattle.lists.specs.Lists.{kept}
use Rattle.lists.specs.Listing.{room_for, held_for}
use Rattle.refusals.specs.declared.Refusal.TheVariants.{BadReading}
use Rattle.table.specs.declared.Settings.{Settings}
use Rattle.table.specs.Table.{Row, Table, rows, need, check_with, then_test}
use Rattle.refusals.specs.declared.Refusal.{Refusal}

-- |distance| is below the threshold, and the weight above 0
abbrev pub is_surface : Float → Float → Float → Bool
is_surface threshold d w = lt (size_of d) threshold && lt zero32 w

-- the keys of such rows
unfoldable pub surface_keys : Float → List Row → List ℕ
surface_keys threshold rs = map (λ (r : Row). r.key) (kept (λ (r : Row). is_surface threshold r.distance r.weight) rs)

-- refusals 1, 2, of the list to be filled too, 3 and 5
unfoldable pub list_check : Settings → Table → Float → ℕ → Result (Unit {0}) Refusal
list_check s t threshold room = then_test (check_with (leb room 1048576) s t) (need (is_finite threshold) BadReading (Ok tt))

-- then 6, exactly when the list is too short
unfoldable pub listed_if : Result (Unit {0}) Refusal → List ℕ → ℕ → Result ℕ Refusal
listed_if (Ok tt) found room = room_for (length found) room
listed_if (Err why) found room = Err why

-- the answer to a list of `room` places
unfoldable pub surface_listed : Settings → Table → Float → ℕ → Result ℕ Refusal
surface_listed s t threshold room = listed_if (list_check s t threshold room) (surface_keys threshold (rows t)) room

-- what it then holds: the keys and zeros, or zeros where it is refused
abbrev pub surface_held : Settings → Table → Float → ℕ → List ℕ
surface_held s t threshold room = held_for 0 (surface_listed s t threshold room) room (surface_keys threshold (rows t))
