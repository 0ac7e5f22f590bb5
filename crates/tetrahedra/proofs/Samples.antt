-- Small tables, computed on the definitions.
-- Assumes nothing.
use Prim.Native.Nat.{ℕ}
use mathlib.Core.Path.{◌≡◌, refl}
use mathlib.Core.List.{List, [], ◌∷◌, map}
use lib.Ieee.{of_bits, lt}
use lib.ListN.{length}
use Rattle.floats.specs.Floats.{f32}
use Rattle.ids.specs.Morton.{respaced, morton}
use Rattle.ids.specs.Key.{key_of}
use Rattle.neighbors.specs.Neighbors.{offsets, in_box, reached_from, shown, neighbours_by}
use Rattle.table.specs.Table.{Row, row}
use Rattle.table.specs.Rows.{stored}
use Rattle.edges.specs.Edges.{Edge, edge, edges}
use Rattle.lists.specs.Threes.{Three, three, threes, with_two, with_third}
use Rattle.tetrahedra.specs.Fours.{Four, four}
use Rattle.tetrahedra.specs.Tetrahedra.{tetrahedra}
use Rattle.tetrahedra.specs.ClosedEdges.{crosses_in, closed_edges}
use Rattle.tetrahedra.specs.ClosedTriangles.{closed_triangles}

-- (11, 11, 9), (10, 10, 10), (11, 11, 11) and (12, 10, 10), of head 0, ascending
abbrev a : ℕ
a = key_of 0 11 11 9

abbrev b : ℕ
b = key_of 0 10 10 10

abbrev c : ℕ
c = key_of 0 11 11 11

abbrev d : ℕ
d = key_of 0 12 10 10

-- 0.25, -0.25, -0 and the weight 1
abbrev out : ℕ
out = 0x3E80_0000

abbrev in' : ℕ
in' = 0xBE80_0000

abbrev minus_zero : ℕ
minus_zero = 0x8000_0000

abbrev full : ℕ
full = 0x3F80_0000

record Sample : Type 0 where
  rows : List Row
  tets : List Four
  lines : List Edge
  faces : List (Three ℕ)

-- the four cells by the bits of their distances and of the last one's weight
cells : ℕ → ℕ → ℕ → ℕ → ℕ → List Four → List Edge → List (Three ℕ) → Sample
cells p q r s w ts es fs =
    record {
      rows = row a (f32 p) (f32 full) ∷ row b (f32 q) (f32 full) ∷ row c (f32 r) (f32 full) ∷ row d (f32 s) (f32 w) ∷ [];
      tets = ts;
      lines = es;
      faces = fs;
    }

abbrev whole : List Four
whole = four a b c d ∷ []

samples : List Sample
unfolding cells
samples =
    -- the second inside alone
    cells out in' out out full whole (edge a b ∷ edge b c ∷ edge b d ∷ []) (three 0 1 2 ∷ [])
    -- the second outside alone, at -0
    ∷ cells in' minus_zero in' in' full whole (edge a b ∷ edge b c ∷ edge b d ∷ []) (three 0 1 2 ∷ [])
    -- the first alone: its edges stand by the order of its neighbours
    ∷ cells in' out out out full whole (edge a d ∷ edge a b ∷ edge a c ∷ []) (three 0 1 2 ∷ [])
    -- the first two inside
    ∷ cells in' in' out out full whole (edge a d ∷ edge a c ∷ edge b c ∷ edge b d ∷ []) (three 1 0 3 ∷ three 1 3 2 ∷ [])
    -- all of one side
    ∷ cells in' in' in' in' full whole [] []
    -- the last without weight
    ∷ cells in' out out out 0 [] [] []
    ∷ []

tetrahedra_of_samples : map (λ (s : Sample). tetrahedra s.rows) samples ≡ map (λ (s : Sample). s.tets) samples
unfolding samples tetrahedra lt of_bits morton respaced threes with_two with_third
tetrahedra_of_samples = refl

edges_of_samples : map (λ (s : Sample). closed_edges s.rows) samples ≡ map (λ (s : Sample). s.lines) samples
unfolding samples edges crosses_in tetrahedra lt of_bits morton respaced threes with_two with_third neighbours_by offsets in_box reached_from shown stored
edges_of_samples = refl

triangles_of_samples : map (λ (s : Sample). closed_triangles s.rows) samples ≡ map (λ (s : Sample). s.faces) samples
unfolding samples closed_triangles edges crosses_in tetrahedra lt of_bits morton respaced threes with_two with_third
    neighbours_by offsets in_box reached_from shown stored
triangles_of_samples = refl

-- a cell inside with its 14 neighbours outside: 24 tetrahedra, 14 vertices and 24 triangles
ball : List Row
ball =
    row (key_of 0 9 9 9) (f32 out) (f32 full)
    ∷ row (key_of 0 11 9 9) (f32 out) (f32 full)
    ∷ row (key_of 0 9 11 9) (f32 out) (f32 full)
    ∷ row (key_of 0 10 10 8) (f32 out) (f32 full)
    ∷ row (key_of 0 11 11 9) (f32 out) (f32 full)
    ∷ row (key_of 0 9 9 11) (f32 out) (f32 full)
    ∷ row (key_of 0 10 8 10) (f32 out) (f32 full)
    ∷ row (key_of 0 11 9 11) (f32 out) (f32 full)
    ∷ row (key_of 0 8 10 10) (f32 out) (f32 full)
    ∷ row (key_of 0 9 11 11) (f32 out) (f32 full)
    ∷ row (key_of 0 10 10 10) (f32 in') (f32 full)
    ∷ row (key_of 0 11 11 11) (f32 out) (f32 full)
    ∷ row (key_of 0 12 10 10) (f32 out) (f32 full)
    ∷ row (key_of 0 10 12 10) (f32 out) (f32 full)
    ∷ row (key_of 0 10 10 12) (f32 out) (f32 full) ∷ []

ball_tetrahedra : length (tetrahedra ball) ≡ 24
unfolding ball tetrahedra lt of_bits morton respaced threes with_two with_third
ball_tetrahedra = refl

ball_edges : length (closed_edges ball) ≡ 14
unfolding ball edges crosses_in tetrahedra lt of_bits morton respaced threes with_two with_third neighbours_by offsets in_box reached_from shown stored
ball_edges = refl

ball_triangles : length (closed_triangles ball) ≡ 24
unfolding ball closed_triangles edges crosses_in tetrahedra lt of_bits morton respaced threes with_two with_third
    neighbours_by offsets in_box reached_from shown stored
ball_triangles = refl
