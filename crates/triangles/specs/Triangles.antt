-- Triangles: cells ascending by key; within a cell, its edge numbers i < j < k in dictionary order.
use Rattle.std.specs.Prelude.{ℕ, ◌+◌, List, [], ◌∷◌}
use Rattle.lists.specs.Lists.{joined}
use Rattle.edges.specs.Edges.{Edge}
use Rattle.groups.specs.Groups.{group_of, count_of}
use Rattle.lists.specs.Threes.{Three, threes, threes_of}

-- the triangles of one cell
abbrev pub triangles_at : List Edge → ℕ → List (Three ℕ)
triangles_at es cell = threes (group_of es cell)

-- the triangle list
abbrev pub triangles : List Edge → List ℕ → List (Three ℕ)
triangles es cells = joined (triangles_at es) cells

-- how long it is
unfoldable pub triangles_of : List Edge → List ℕ → ℕ
unfolding threes_of
triangles_of es [] = 0
triangles_of es (cell ∷ cells) = threes_of (count_of cell es) + triangles_of es cells
