-- What the private functions promise each other.
use Rattle.std.specs.Prelude.{ℕ, ◌+◌, ◌≤◌, ◌≡◌, true, List, Float, length, get_or, take, Ok, Result}
use Rattle.std.specs.Float.{nan}
use Rattle.std.proofs.lemmas.List.Edits.{sets}
use Rattle.search.specs.Keys.{ascending}
use Rattle.table.specs.Table.{Row, row, table, Table}
use Rattle.edges.specs.Edges.{Edge}
use Rattle.edges.specs.Listing.{firsts, seconds, outputs_ok}
use Rattle.refusals.specs.declared.Refusal.{Refusal}

-- a table that refusals 1 to 3 let pass, as far as edges need it
pub record Accepted (t : Table) : Type 0 where
  pub fits : t.count ≤ length t.keys
  pub distances : length t.distances ≡ length t.keys
  pub weights : length t.weights ≡ length t.keys
  pub few : length t.keys ≤ 65536
  pub rising : ascending (take t.count t.keys) ≡ true

-- what a verdict that passed tells of a table, and of two lists of lengths a and b
abbrev pub Tested : Result (Unit {0}) Refusal → List ℕ → List Float → List Float → ℕ → ℕ → ℕ → Type 0
Tested v ks ds ws n a b = v ≡ (Ok tt) → Accepted (table ks ds ws n) × (outputs_ok a b ≡ true)

-- the row at a place
abbrev pub row_at : List ℕ → List Float → List Float → ℕ → Row
row_at ks ds ws i = row (get_or ks i 0) (get_or ds i nan) (get_or ws i nan)

-- edges written into two lists from a place on: where they end, and what the lists then hold
pub record Wrote (es : List Edge) (at : ℕ) (first second : List ℕ) (end : ℕ) (first' second' : List ℕ) : Type 0 where
  pub count : end ≡ at + length es
  pub ones : first' ≡ sets first at (firsts es)
  pub others : second' ≡ sets second at (seconds es)
