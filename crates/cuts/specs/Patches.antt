-- A cut's triangles by value: none, one or two.
use Rattle.std.specs.Prelude.{ℕ, List, [], ◌∷◌}
use Rattle.lists.specs.Threes.{Three, three}
use Rattle.edges.specs.Edges.{Edge}
use Rattle.edges.specs.EdgeList.{pair_of}
use Rattle.tetrahedra.specs.ClosedTriangles.{number_in, rising}
use Rattle.cuts.specs.declared.Cut.{Cut}
use Rattle.cuts.specs.declared.Cut.TheVariants.{Nothing, One, Two}
use Rattle.cuts.specs.declared.Triangle.{Triangle}
use Rattle.cuts.specs.declared.Patch.{Patch}
use Rattle.cuts.specs.declared.Patch.TheVariants.{Empty, Single, Double}

-- three numbers by value, and back
abbrev pub triangle_of : Three ℕ → Triangle
triangle_of t = record { a = t.a; b = t.b; c = t.c }

abbrev pub three_of : Triangle → Three ℕ
three_of t = three t.a t.b t.c

-- by the number of the vertex between two cells: a single one names its vertices ascending; of two inside p < q and outside r < s, (pr, ps, qs) and
-- (pr, qs, qr)
unfoldable pub patch_by : (ℕ → ℕ → ℕ) → Cut → Patch
unfolding rising
patch_by vertex Nothing = Empty
patch_by vertex (One p x y z) = Single (triangle_of (rising (vertex p x) (vertex p y) (vertex p z)))
patch_by vertex (Two p q r s) =
    Double (triangle_of (three (vertex p r) (vertex p s) (vertex q s))) (triangle_of (three (vertex p r) (vertex q s) (vertex q r)))

-- as a list
unfoldable pub triangles_of_patch : Patch → List (Three ℕ)
triangles_of_patch Empty = []
triangles_of_patch (Single t) = three_of t ∷ []
triangles_of_patch (Double t u) = three_of t ∷ three_of u ∷ []

-- the number of the vertex between two cells: the place of its edge in a list
abbrev pub vertex_in : List Edge → ℕ → ℕ → ℕ
vertex_in es a b = number_in es (pair_of a b)

-- the triangles of a cut, by the numbers of their vertices in a list of edges
unfoldable pub triangles_by : List Edge → Cut → List (Three ℕ)
unfolding patch_by triangles_of_patch number_in
triangles_by es cut = triangles_of_patch (patch_by (vertex_in es) cut)
