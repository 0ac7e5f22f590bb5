-- Vertex i comes from edge i: what a vertex is to the rows of a table.
use Rattle.std.specs.Prelude.{◌≡◌, List, Float}
use Rattle.lists.specs.Lists.{◌∈◌}
use Rattle.table.specs.Table.{Row}
use Rattle.edges.specs.Edges.{Edge, edge}
use Rattle.slopes.specs.declared.Vertex.{Vertex}
use Rattle.slopes.specs.Vertices.{vertex_of}

-- v lies on the edge e, between the two stored rows that e joins
pub record EdgeVertex (rows : List Row) (size : Float) (e : Edge) (v : Vertex) : Type 0 where
  pub one : Row
  pub other : Row
  pub stored : one ∈ rows
  pub beside : other ∈ rows
  pub joins : e ≡ edge one.key other.key
  pub place : v ≡ vertex_of size one.key one.distance other.key other.distance
