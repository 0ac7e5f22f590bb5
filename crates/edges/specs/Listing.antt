-- Listing edges into two lent lists.
use Rattle.std.specs.Prelude.{ℕ, Bool, ◌&&◌, List, map, leb, eqb, length, Ok, Err, Result}
use Rattle.lists.specs.Listing.{room_for, held_for}
use Rattle.table.specs.Table.{Table, rows, check_with}
use Rattle.table.specs.declared.Settings.{Settings}
use Rattle.edges.specs.Edges.{Edge, edges}
use Rattle.edges.specs.Surfaces.{edges_on}
use Rattle.edges.specs.declared.Surface.{Surface}
use Rattle.edges.specs.declared.Surface.TheVariants.{Open}
use Rattle.refusals.specs.declared.Refusal.{Refusal}

-- the two columns of an edge list
abbrev pub firsts : List Edge → List ℕ
firsts es = map (λ (e : Edge). e.first) es

abbrev pub seconds : List Edge → List ℕ
seconds es = map (λ (e : Edge). e.second) es

-- two lists of equal length, at most 1,048,576
abbrev pub outputs_ok : ℕ → ℕ → Bool
outputs_ok a b = eqb a b && leb a 1048576

-- refusals 1, 2 and 3, for a table and two lists of lengths a and b
abbrev pub checked_for : Settings → Table → ℕ → ℕ → Result (Unit {0}) Refusal
checked_for s t a b = check_with (outputs_ok a b) s t

-- what the tests refuse stays refused; otherwise the list is answered by its room
unfoldable pub answer_if : Result (Unit {0}) Refusal → List Edge → ℕ → Result ℕ Refusal
answer_if (Ok tt) es room = room_for (length es) room
answer_if (Err why) es room = Err why

-- the answer to a call for a surface's edges, and what the two lists hold
unfoldable pub crossings_answer : Surface → Settings → Table → ℕ → ℕ → Result ℕ Refusal
unfolding answer_if edges
crossings_answer o s t a b = answer_if (checked_for s t a b) (edges_on o (rows t)) a

abbrev pub firsts_on : Surface → Settings → Table → ℕ → ℕ → List ℕ
firsts_on o s t a b = held_for 0 (crossings_answer o s t a b) a (firsts (edges_on o (rows t)))

abbrev pub seconds_on : Surface → Settings → Table → ℕ → ℕ → List ℕ
seconds_on o s t a b = held_for 0 (crossings_answer o s t a b) b (seconds (edges_on o (rows t)))

-- the same of the zero-crossing edges
abbrev pub edges_answer : Settings → Table → ℕ → ℕ → Result ℕ Refusal
edges_answer s t a b = crossings_answer Open s t a b

abbrev pub firsts_held : Settings → Table → ℕ → ℕ → List ℕ
firsts_held s t a b = firsts_on Open s t a b

abbrev pub seconds_held : Settings → Table → ℕ → ℕ → List ℕ
seconds_held s t a b = seconds_on Open s t a b
