-- Small tables, computed on the definitions; the expected triangles were found by geometry, apart from them (the normal at the edges' middles against
-- outside minus inside).
-- Assumes nothing.
use Prim.Native.Nat.{ℕ}
use mathlib.Core.Path.{◌≡◌, refl}
use mathlib.Core.List.{List, [], ◌∷◌, map}
use lib.Ieee.{of_bits, lt}
use Rattle.floats.specs.Floats.{f32}
use Rattle.ids.specs.Morton.{respaced, morton}
use Rattle.ids.specs.Key.{key_of}
use Rattle.neighbors.specs.Neighbors.{offsets, in_box, reached_from, shown, neighbours_by}
use Rattle.table.specs.Table.{Row, row}
use Rattle.table.specs.Rows.{stored}
use Rattle.edges.specs.Edges.{edges}
use Rattle.lists.specs.Threes.{Three, three, threes, with_two, with_third}
use Rattle.tetrahedra.specs.Tetrahedra.{tetrahedra}
use Rattle.tetrahedra.specs.ClosedEdges.{crosses_in}
use Rattle.tetrahedra.specs.ClosedTriangles.{closed_triangles}
use Rattle.winding.specs.Winding.{turned_triangles}

-- (11, 11, 9), (10, 10, 10), (11, 11, 11) and (12, 10, 10), of head 0, ascending: left-handed
abbrev out : ℕ
out = 0x3E80_0000

abbrev in' : ℕ
in' = 0xBE80_0000

abbrev full : ℕ
full = 0x3F80_0000

cells : ℕ → ℕ → ℕ → ℕ → List Row
cells p q r s =
    row (key_of 0 11 11 9) (f32 p) (f32 full)
    ∷ row (key_of 0 10 10 10) (f32 q) (f32 full)
    ∷ row (key_of 0 11 11 11) (f32 r) (f32 full)
    ∷ row (key_of 0 12 10 10) (f32 s) (f32 full) ∷ []

tables : List (List Row)
unfolding cells
tables =
    cells out in' out out
    ∷ cells in' out in' in'
    ∷ cells in' out out out
    ∷ cells in' in' out out
    ∷ cells out out in' in'
    ∷ cells in' out in' out
    ∷ []

expected : List (List (Three ℕ))
expected =
    (three 0 1 2 ∷ [])
    ∷ (three 0 2 1 ∷ [])
    ∷ (three 0 2 1 ∷ [])
    ∷ (three 1 3 0 ∷ three 1 2 3 ∷ [])
    ∷ (three 1 3 2 ∷ three 1 0 3 ∷ [])
    ∷ (three 1 0 3 ∷ three 1 3 2 ∷ []) ∷ []

samples : map turned_triangles tables ≡ expected
unfolding tables expected turned_triangles closed_triangles edges crosses_in tetrahedra lt of_bits morton respaced threes
    with_two with_third neighbours_by offsets in_box reached_from shown stored
samples = refl
