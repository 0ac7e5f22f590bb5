-- Filling the list of groups and the triangle list, on any two lists of edges. On the edge list of a table they are document 01's (proofs/Built.antt).
use Rattle.std.specs.Prelude.{ℕ, Bool, cond, ◌&&◌, List, eqb, leb, length, take, Ok, Err, Result}
use Rattle.lists.specs.Lists.{joined}
use Rattle.lists.specs.Listing.{held_for}
use Rattle.refusals.specs.declared.Refusal.TheVariants.{Lengths, NoPlace}
use Rattle.groups.specs.CellEdges.{pairs_ok}
use Rattle.groups.specs.Near.{group_in}
use Rattle.lists.specs.Threes.{Three, threes, column0, column1, column2}
use Rattle.refusals.specs.declared.Refusal.{Refusal}

-- keys and how many of them are rows; edges and how many there are
pub record Source : Type 0 where
  pub keys : List ℕ
  pub rows : ℕ
  pub first : List ℕ
  pub second : List ℕ
  pub edges : ℕ

-- the rooms of the list of groups and of the three lists of triangles
pub record Rooms : Type 0 where
  pub groups : ℕ
  pub t0 : ℕ
  pub t1 : ℕ
  pub t2 : ℕ

abbrev pub source : List ℕ → ℕ → List ℕ → List ℕ → ℕ → Source
source ks n as' bs m = record { keys = ks; rows = n; first = as'; second = bs; edges = m }

abbrev pub rooms : ℕ → ℕ → ℕ → ℕ → Rooms
rooms g x y z = record { groups = g; t0 = x; t1 = y; t2 = z }

-- the group of a cell, from its own neighbourhood
abbrev pub group_at : Source → ℕ → List ℕ
group_at s cell = group_in s.first s.second s.edges cell

-- its triangles
abbrev pub threes_at : Source → ℕ → List (Three ℕ)
threes_at s cell = threes (group_at s cell)

-- the groups of some cells, one after the other, and their triangles
abbrev pub groups_at : Source → List ℕ → List ℕ
groups_at s cells = joined (group_at s) cells

abbrev pub triangles_at : Source → List ℕ → List (Three ℕ)
triangles_at s cells = joined (threes_at s) cells

-- the cells: the keys of the rows
abbrev pub cells_of : Source → List ℕ
cells_of s = take s.rows s.keys

-- equal lengths within the limits, and no count above its length
abbrev pub lengths_ok : ℕ → ℕ → ℕ → ℕ → ℕ → ℕ → ℕ → ℕ → ℕ → Bool
lengths_ok keys rows first second edges groups t0 t1 t2 =
    (leb keys 65536 && leb rows keys)
    && (pairs_ok first second edges && (leb groups 1048576 && ((eqb t0 t1 && eqb t0 t2) && leb t0 1048576)))

-- the same of a source and its rooms
unfoldable pub sizes_ok : Source → Rooms → Bool
sizes_ok s r =
    lengths_ok (length s.keys) s.rows (length s.first) (length s.second) s.edges r.groups r.t0 r.t1 r.t2

-- n groups' numbers and m triangles in rooms: refused with 6 exactly when one of the two is too small
abbrev pub room_for_both : ℕ → ℕ → ℕ → ℕ → Result ℕ Refusal
room_for_both n room m place = cond (leb n room && leb m place) (Ok m) (Err NoPlace)

-- the answer: 2, then 6, then the number of triangles
unfoldable pub built_answer : Source → Rooms → Result ℕ Refusal
unfolding sizes_ok joined group_in threes
built_answer s r =
    cond (sizes_ok s r)
    (room_for_both (length (groups_at s (cells_of s))) r.groups (length (triangles_at s (cells_of s))) r.t0)
    (Err Lengths)

-- what the four lists then hold
abbrev pub groups_held : Source → Rooms → List ℕ
groups_held s r = held_for 0 (built_answer s r) r.groups (groups_at s (cells_of s))

abbrev pub held0 : Source → Rooms → List ℕ
held0 s r = held_for 0 (built_answer s r) r.t0 (column0 (triangles_at s (cells_of s)))

abbrev pub held1 : Source → Rooms → List ℕ
held1 s r = held_for 0 (built_answer s r) r.t1 (column1 (triangles_at s (cells_of s)))

abbrev pub held2 : Source → Rooms → List ℕ
held2 s r = held_for 0 (built_answer s r) r.t2 (column2 (triangles_at s (cells_of s)))
