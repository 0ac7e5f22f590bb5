-- The tetrahedra from each cell's own neighbourhood: what a program would do. It is the same list (proofs/NearLaws.antt).
use Rattle.std.specs.Prelude.{ℕ, Bool, ◌&&◌, List, map, ltb}
use Rattle.lists.specs.Lists.{kept, joined}
use Rattle.neighbors.specs.Neighbors.{adjacent}
use Rattle.table.specs.Table.{Row}
use Rattle.rings.specs.Sides.{weighted}
use Rattle.rings.specs.Rings.{any}
use Rattle.lists.specs.Threes.{Three, threes}
use Rattle.tetrahedra.specs.Fours.{Four, before}
use Rattle.tetrahedra.specs.Tetrahedra.{weighted_keys}

-- the neighbours of k with weight above 0 and a larger key, ascending
unfoldable pub higher : List Row → ℕ → List ℕ
unfolding weighted kept
higher rows k = kept (λ (l : ℕ). ltb k l && adjacent k l) (weighted_keys rows)

-- three cells are pairwise adjacent
unfoldable pub close : Three ℕ → Bool
close t = adjacent t.a t.b && (adjacent t.a t.c && adjacent t.b t.c)

-- every three higher neighbours that are pairwise adjacent, with the cell before them
unfoldable pub starting_at : List Row → ℕ → List Four
unfolding higher close kept threes
starting_at rows k = map (before k) (kept close (threes (higher rows k)))

unfoldable pub near_tetrahedra : List Row → List Four
unfolding starting_at joined
near_tetrahedra rows = joined (starting_at rows) (weighted_keys rows)

-- the cells with weight above 0 that are adjacent to both k and l
unfoldable pub common : List Row → ℕ → ℕ → List ℕ
unfolding weighted kept
common rows k l = kept (λ (m : ℕ). adjacent k m && adjacent l m) (weighted_keys rows)

-- two of them are adjacent: there is a tetrahedron around the edge k, l
unfoldable pub joint_near : List Row → ℕ → ℕ → Bool
unfolding common any
joint_near rows k l = any (λ (m : ℕ). any (adjacent m) (common rows k l)) (common rows k l)
