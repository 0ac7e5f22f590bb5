-- The tetrahedra of a table: an axial pair with two points of the ring around it that differ by 2 on one axis; all four stored with weight above 0.
use Rattle.std.specs.Prelude.{ℕ, Bool, ◌&&◌, ◌||◌, List, eqb}
use Rattle.ids.specs.Key.{head_of, x_of, y_of, z_of}
use Rattle.lists.specs.Lists.{kept}
use Rattle.neighbors.specs.Neighbors.{apart}
use Rattle.table.specs.Table.{Row}
use Rattle.table.specs.Rows.{keys_of}
use Rattle.rings.specs.Sides.{weighted}
use Rattle.tetrahedra.specs.Fours.{Four, fours}

-- by 2 on one axis and 0 on the others
unfoldable pub straight : ℕ → ℕ → ℕ → Bool
straight a b c = (eqb a 2 && (eqb b 0 && eqb c 0)) || ((eqb a 0 && (eqb b 2 && eqb c 0)) || (eqb a 0 && (eqb b 0 && eqb c 2)))

-- by 1 on all three axes
unfoldable pub slanted : ℕ → ℕ → ℕ → Bool
slanted a b c = eqb a 1 && (eqb b 1 && eqb c 1)

-- two cells of one head, by the distances of their coordinates
abbrev pub apart_by : (ℕ → ℕ → ℕ → Bool) → ℕ → ℕ → Bool
apart_by f k l = eqb (head_of k) (head_of l) && f (apart (x_of k) (x_of l)) (apart (y_of k) (y_of l)) (apart (z_of k) (z_of l))

-- an axial pair: one is the other plus 2 on one axis
unfoldable pub axial : ℕ → ℕ → Bool
unfolding straight
axial k l = apart_by straight k l

-- one slanted step apart
unfoldable pub diagonal : ℕ → ℕ → Bool
unfolding slanted
diagonal k l = apart_by slanted k l

-- m is a point of the ring around the axial pair k, l: it is one slanted step from both
abbrev pub ring : ℕ → ℕ → ℕ → Bool
ring k l m = diagonal k m && diagonal l m

-- an axial pair k, l with two points m, n of the ring around it that differ by 2 on one axis
unfoldable pub shaped : ℕ → ℕ → ℕ → ℕ → Bool
unfolding axial diagonal
shaped k l m n = axial k l && (axial m n && (ring k l m && ring k l n))

-- four cells are so, whichever are the axial pair. (The two ring points are an axial pair too, so three of the six choices say all.)
unfoldable pub tetrahedron : Four → Bool
unfolding shaped
tetrahedron t = shaped t.a t.b t.c t.d || (shaped t.a t.c t.b t.d || shaped t.a t.d t.b t.c)

-- the keys of the rows with weight above 0
abbrev pub weighted_keys : List Row → List ℕ
weighted_keys rows = keys_of (kept weighted rows)

-- the tetrahedra of a table's rows, by their four ascending keys in dictionary order
unfoldable pub tetrahedra : List Row → List Four
unfolding tetrahedron weighted kept fours
tetrahedra rows = kept tetrahedron (fours (weighted_keys rows))
