-- Whether a tetrahedron of stored cells with weight above 0 lies around a pair of cells, by the neighbours of one of them.
use Rattle.std.specs.Prelude.{ℕ, Bool, false, cond, ◌&&◌, ◌||◌, List, [], ◌∷◌, ltb, Float, length, get_or, take, Some, None, Option}
use Rattle.std.specs.Float.{nan}
use Rattle.neighbors.specs.Neighbors.{neighbours, adjacent}
use Rattle.search.specs.Nearby.{find_near}
use Rattle.table.specs.Table.{Row}
use Rattle.table.specs.Rows.{stored}
use Rattle.rings.specs.Sides.{is_positive, weighted, opposed}

-- a test passes at one of a list
unfoldable pub any : {A : Type 0} → (A → Bool) → List A → Bool
any f [] = false
any f (x ∷ xs) = f x || any f xs

-- the weight of a stored cell is above 0, by its key
abbrev pub weighted_of : Option Row → Bool
weighted_of None = false
weighted_of (Some r) = weighted r

unfoldable pub weighted_at : List Row → ℕ → Bool
unfolding weighted stored
weighted_at rows k = weighted_of (stored k rows)

-- the weight at a place that was found is above 0
unfoldable pub weighted_found : List Float → Option ℕ → Bool
weighted_found ws (Some place) = cond (ltb place (length ws)) (is_positive (get_or ws place nan)) false
weighted_found ws None = false

-- The same by a search among the first n keys, in whatever order they stand, expected near a row. On an accepted table it is that of the row, whatever
-- was expected (edges' SurfaceLaws).
abbrev pub weighted_by : List ℕ → List Float → ℕ → ℕ → ℕ → Bool
weighted_by ks ws n near key = weighted_found ws (find_near key (take n ks) near)

module _ (look : ℕ → Bool) where
  -- n is adjacent to l and to m, and passes
  unfoldable pub beside_both : ℕ → ℕ → ℕ → Bool
  beside_both l m n = adjacent l n && (adjacent m n && look n)

  -- m is adjacent to l, and passes, and so does one of some cells that is adjacent to both
  unfoldable pub completed : List ℕ → ℕ → ℕ → Bool
  unfolding any beside_both
  completed ns l m = adjacent l m && (look m && any (beside_both l m) ns)

  -- there are two such neighbours of k, as two loops of at most 14 turns find them
  unfoldable pub joint_by : ℕ → ℕ → Bool
  unfolding any completed
  joint_by k l = any (completed (neighbours k) l) (neighbours k)

-- two cells are corners of a tetrahedron with two others of weight above 0
abbrev pub joint_scan : List Row → ℕ → ℕ → Bool
joint_scan rows = joint_by (weighted_at rows)

-- two stored rows that are adjacent cross: one is inside and the other outside, both with weight above 0, and a tetrahedron lies around them
unfoldable pub crosses_scan : List Row → Row → Row → Bool
unfolding opposed joint_by weighted_at
crosses_scan rows r s = opposed r.distance r.weight s.distance s.weight && joint_scan rows r.key s.key
