-- The surfaces that are asked for, and the edges of each.
use Rattle.std.specs.Prelude.{Bool, List}
use Rattle.neighbors.specs.Neighbors.{neighbours}
use Rattle.table.specs.Table.{Row}
use Rattle.rings.specs.Rings.{crosses_scan}
use Rattle.edges.specs.Edges.{Edge, edges}
use Rattle.edges.specs.ZeroCrossing.{crosses_zero}
use Rattle.edges.specs.declared.Surface.{Surface}
use Rattle.edges.specs.declared.Surface.TheVariants.{Open, Closed}

-- the test of two rows of a table by which a surface has its edges: document 01's surface has the zero crossings, the one that closes has the pairs of
-- opposite sides around which a tetrahedron lies
abbrev pub crosses_on : Surface → List Row → Row → Row → Bool
crosses_on Open rows = crosses_zero
crosses_on Closed rows = crosses_scan rows

-- the edges of a surface
abbrev pub edges_on : Surface → List Row → List Edge
edges_on o rows = edges neighbours (crosses_on o rows) rows
