-- Samples of edges beside document 01's (crate samples), computed on the definition.
-- Assumes nothing.
use Prim.Native.Nat.{ℕ}
use mathlib.Core.Path.{◌≡◌, refl}
use mathlib.Core.List.{List, [], ◌∷◌, map}
use lib.Ieee.{of_bits, mul, lt, ne}
use Rattle.floats.specs.Floats.{f32}
use Rattle.ids.specs.Morton.{respaced, morton}
use Rattle.ids.specs.Key.{key_of}
use Rattle.neighbors.specs.Neighbors.{offsets, in_box, reached_from, shown, neighbours_by}
use Rattle.table.specs.Table.{Row, row}
use Rattle.table.specs.Rows.{stored}
use Rattle.edges.specs.Edges.{Edge, edge, edges}
use Rattle.edges.specs.ZeroCrossing.{crossing, zero_crossing_edges}

-- (10, 10, 10) and (11, 11, 11), of head 0
abbrev a : ℕ
a = key_of 0 10 10 10

abbrev b : ℕ
b = key_of 0 11 11 11

-- rows, and the edges that they have
record Sample : Type 0 where
  rows : List Row
  expected : List Edge

-- the two cells by the bits of distance, weight, distance and weight
two : ℕ → ℕ → ℕ → ℕ → List Edge → Sample
two d w d' w' es = record { rows = row a (f32 d) (f32 w) ∷ row b (f32 d') (f32 w') ∷ []; expected = es }

samples : List Sample
unfolding two
samples =
    -- -0.25 and 0.25
    two 0xBE80_0000 0x3F80_0000 0x3E80_0000 0x3F80_0000 (edge a b ∷ [])
    -- a weight of 0 or -0, of either row
    ∷ two 0x3E80_0000 0 0xBE80_0000 0x3F80_0000 []
    ∷ two 0x3E80_0000 0x3F80_0000 0xBE80_0000 0 []
    ∷ two 0x3E80_0000 0x8000_0000 0xBE80_0000 0x3F80_0000 []
    ∷ two 0x3E80_0000 0x3F80_0000 0xBE80_0000 0x8000_0000 []
    -- one row alone, of weight 0
    ∷ record { rows = row a (f32 0x3E80_0000) (f32 0) ∷ []; expected = [] }
    -- the empty table
    ∷ record { rows = []; expected = [] }
    ∷ []

edges_of_samples : map (λ (s : Sample). zero_crossing_edges s.rows) samples ≡ map (λ (s : Sample). s.expected) samples
unfolding samples edges crossing mul lt ne of_bits morton respaced neighbours_by offsets in_box reached_from shown stored
edges_of_samples = refl
