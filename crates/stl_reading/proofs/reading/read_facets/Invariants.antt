-- `stl::reading::read_facets` meets its contract: the triangles that are left pass exactly when all do, and their corners are put from where they go on.
-- Assumes nothing.
use Prim.Native.Nat.{◌≤◌}
use mathlib.Core.Path.{◌≡◌}
use Rattle.slopes.specs.declared.Vertex.{Vertex}
use Rattle.corners.specs.Corners.{every, vertex_ok}
use Rattle.stl.specs.Files.{facets_from, corners_of}
use Rattle.stl_reading.proofs.ReadingLaws.{left_of, ColumnReading}
use Rattle.stl_reading.proofs.reading.read_facets.Given as goal

abbrev pub invariant-loop-i : goal.invariant-loop-i
invariant-loop-i l = (l.i ≤ l.count)
    × (every vertex_ok (corners_of (facets_from l.count l.file 84)) ≡ every vertex_ok (corners_of (left_of l.file l.count l.i)))
    × ColumnReading l.file l.count l.i (λ (v : Vertex). v.x.0) l.initial.px l.px
    × ColumnReading l.file l.count l.i (λ (v : Vertex). v.y.0) l.initial.py l.py
    × ColumnReading l.file l.count l.i (λ (v : Vertex). v.z.0) l.initial.pz l.pz
