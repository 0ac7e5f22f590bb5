-- On the edge list of a table, whatever follows it in its two lists, what is built is document 01's groups and triangles: a cell's group from its
-- own neighbourhood is its group.
-- Assumes nothing.
use Prim.Native.Nat.{ℕ}
use mathlib.Core.Path.{◌≡◌, refl, ap, ap₂}
use mathlib.Core.Bool.{true}
use mathlib.Core.List.{List, [], ◌∷◌, ◌++◌}
use lib.ListN.{length}
use Rattle.lists.specs.Lists.{joined}
use Rattle.search.specs.Keys.{ascending}
use Rattle.table.specs.Table.{Row}
use Rattle.table.specs.Rows.{keys_of}
use Rattle.edges.specs.Edges.{Edge}
use Rattle.edges.specs.Listing.{firsts, seconds}
use Rattle.edges.specs.ZeroCrossing.{zero_crossing_edges}
use Rattle.groups.specs.Groups.{group_of, groups}
use Rattle.groups.specs.CellEdges.{pairs_ok}
use Rattle.groups.specs.Near.{group_in}
use Rattle.groups.proofs.CountingLaws.{edges_back}
use Rattle.groups.proofs.Handed.{near_is_group}
use Rattle.lists.specs.Threes.{threes}
use Rattle.triangles.specs.Triangles.{triangles}

joined_same : {A B : Type 0} (f g : A → List B) (l : List A) → ((x : A) → f x ≡ g x) → joined f l ≡ joined g l
unfolding joined
joined_same f g [] h = refl
joined_same f g (x ∷ xs) h = ap₂ ◌++◌ (h x) (joined_same f g xs h)

module _ (rows : List Row) (up : ascending (keys_of rows) ≡ true) where
  abbrev es : List Edge
  es = zero_crossing_edges rows

  module _ (xs ys : List ℕ) (ok : pairs_ok (length (firsts es ++ xs)) (length (seconds es ++ ys)) (length es) ≡ true) where
    pub group_built : (cell : ℕ) → group_in (firsts es ++ xs) (seconds es ++ ys) (length es) cell ≡ group_of es cell
    unfolding group_in
    group_built cell = rw (ok, edges_back es xs ys) (near_is_group rows up cell)

    pub groups_built : (cells : List ℕ) → joined (group_in (firsts es ++ xs) (seconds es ++ ys) (length es)) cells ≡ groups es cells
    groups_built cells = joined_same (group_in (firsts es ++ xs) (seconds es ++ ys) (length es)) (group_of es) cells group_built

    pub triangles_built :
        (cells : List ℕ)
        → joined (λ (cell : ℕ). threes (group_in (firsts es ++ xs) (seconds es ++ ys) (length es) cell)) cells ≡ triangles es cells
    triangles_built cells =
        joined_same (λ (cell : ℕ). threes (group_in (firsts es ++ xs) (seconds es ++ ys) (length es) cell)) (λ (cell : ℕ). threes (group_of es cell)) cells
        (λ cell. ap threes (group_built cell))
