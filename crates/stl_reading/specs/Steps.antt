-- What the private functions promise each other.
use Rattle.std.specs.Prelude.{ℕ, ◌+◌, List}
use Rattle.floats.specs.Floats.{f32}
use Rattle.slopes.specs.declared.Vertex.{Vertex}
use Rattle.corners.specs.Corners.{vertex}
use Rattle.words.specs.Words.{word_from}
use Rattle.stl_reading.specs.declared.reading.Patterns.{Patterns}

-- the patterns of a vertex's three floats, from a place on
abbrev pub patterns_from : List ℕ → ℕ → Patterns
patterns_from bs at = record { x = word_from bs at; y = word_from bs (at + 4); z = word_from bs (at + 8) }

-- the vertex of three patterns
abbrev pub pattern_vertex : Patterns → Vertex
pattern_vertex v = vertex (f32 v.x) (f32 v.y) (f32 v.z)
