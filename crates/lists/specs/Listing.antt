-- The answer to a list, and what the lent list then holds.
use Rattle.std.specs.Prelude.{ℕ, cond, List, leb, replicate, Ok, Err, Result}
use Rattle.refusals.specs.Refusals.{number_of}
use Rattle.refusals.specs.declared.Refusal.TheVariants.{NoPlace}
use Rattle.lists.specs.Padding.{padded}
use Rattle.refusals.specs.declared.Refusal.{Refusal}

-- n entries in a room: refused with 6 exactly when the room is smaller
abbrev pub room_for : ℕ → ℕ → Result ℕ Refusal
room_for n room = cond (leb n room) (Ok n) (Err NoPlace)

-- how many an answer says; none where it refuses
abbrev pub count_of : Result ℕ Refusal → ℕ
count_of (Ok n) = n
count_of (Err why) = 0

-- n where an answer is no refusal, 0 where it is
abbrev pub kept_of : {B : Type 0} → Result B Refusal → ℕ → ℕ
kept_of (Ok found) n = n
kept_of (Err why) n = 0

-- what a list of a given room then holds: what was found and then v, or v throughout where it is refused
unfoldable pub held_for : {A : Type 0} → A → Result ℕ Refusal → ℕ → List A → List A
held_for v (Ok n) room found = padded v room found
held_for v (Err why) room found = replicate room v

-- document 01's number of an answer, 0 where it is no refusal
abbrev pub listed_number : Result ℕ Refusal → ℕ
listed_number (Ok n) = 0
listed_number (Err why) = number_of why
