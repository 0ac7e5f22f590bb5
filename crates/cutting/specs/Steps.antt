-- What the private functions promise each other.
use Rattle.std.specs.Prelude.{ℕ, ◌+◌, ◌*◌, ◌≤◌, ◌<◌, ◌≡◌, Bool, true, false, cond, List, ltb, eqb, Float, length, get_or, Ok, Result}
use Rattle.std.proofs.lemmas.List.Edits.{sets}
use Rattle.lists.specs.Places.{cleared_from}
use Rattle.lists.specs.Listing.{count_of, held_for}
use Rattle.lists.specs.Threes.{Three, column0, column1, column2}
use Rattle.neighbors.specs.Neighbors.{adjacent}
use Rattle.table.specs.Table.{Row, rows_of, table}
use Rattle.edges.specs.Steps.{Accepted}
use Rattle.groups.specs.CellEdges.{edges_in, pairs_ok}
use Rattle.tetrahedra.specs.ClosedEdges.{closed_edges}
use Rattle.tetrahedra.specs.ClosedTriangles.{closed_triangles}
use Rattle.cutting.specs.Closing.{cut_answer}
use Rattle.refusals.specs.declared.Refusal.{Refusal}

-- three lists of equal length
pub record Even (x y z : List ℕ) : Type 0 where
  pub second : length y ≡ length x
  pub third : length z ≡ length x

-- triangles put into three lists from a place on, as far as they have room: where they end, and what the lists then hold
pub record Puts (whole : List (Three ℕ)) (at : ℕ) (x y z : List ℕ) (end : ℕ) (x' y' z' : List ℕ) : Type 0 where
  pub count : end ≡ at + length whole
  pub ones : x' ≡ sets x at (column0 whole)
  pub twos : y' ≡ sets y at (column1 whole)
  pub threes : z' ≡ sets z at (column2 whole)

-- at most 14 keys, beside as many sides
pub record Beside (hs : List ℕ) (ss : List Bool) : Type 0 where
  pub equal : length ss ≡ length hs
  pub few : length hs ≤ 14

-- of the first n cells is told which past each are adjacent to it, each in a part of 14
abbrev pub MeetsUpTo : List ℕ → ℕ → List Bool → Type 0
MeetsUpTo hs n ms = (i l : ℕ) → i < n → i < l → l < length hs → get_or ms (14 * i + l) false ≡ adjacent (get_or hs i 0) (get_or hs l 0)

-- of all cells
pub record Meets (hs : List ℕ) (ms : List Bool) : Type 0 where
  pub room : length ms ≡ 196
  pub told : MeetsUpTo hs (length hs) ms

-- an edge starts at a key, by the place of the key: the first key there is that one
unfoldable pub starts_at : List ℕ → ℕ → ℕ → ℕ → Bool
starts_at first n place key = cond (ltb place n) (eqb (get_or first place 0) key) false

-- an accepted table, and two lists that hold its closed edges in front
pub record Own (ks : List ℕ) (ds ws : List Float) (n : ℕ) (first second : List ℕ) (m : ℕ) : Type 0 where
  pub accepted : Accepted (table ks ds ws n)
  pub pairs : pairs_ok (length first) (length second) m ≡ true
  pub edges : edges_in first second m ≡ closed_edges (rows_of ks ds ws n)

-- the same, where edges were listed
abbrev pub OwnIf : Result ℕ Refusal → List ℕ → List Float → List Float → ℕ → List ℕ → List ℕ → Type 0
OwnIf e ks ds ws n first second = (m : ℕ) → e ≡ Ok m → Own ks ds ws n first second m

-- the triangles of rows by the answer to their edges: what is answered, and what the three lists hold once they are cleared past their count
pub record IsCut (e : Result ℕ Refusal) (rs : List Row) (x y z : List ℕ) (r : Result ℕ Refusal) (x' y' z' : List ℕ) : Type 0 where
  pub answer : r ≡ cut_answer e (closed_triangles rs) (length x) (length y) (length z)
  pub t0 : cleared_from 0 (count_of r) x' ≡ held_for 0 r (length x) (column0 (closed_triangles rs))
  pub t1 : cleared_from 0 (count_of r) y' ≡ held_for 0 r (length y) (column1 (closed_triangles rs))
  pub t2 : cleared_from 0 (count_of r) z' ≡ held_for 0 r (length z) (column2 (closed_triangles rs))
