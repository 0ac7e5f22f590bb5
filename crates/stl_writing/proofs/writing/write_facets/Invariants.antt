-- `stl::writing::write_facets` meets its contract: the triangles that are left are written from where they go on.
-- Assumes nothing.
use Prim.Native.Nat.{◌+◌, ◌*◌, ◌≤◌}
use mathlib.Core.Path.{◌≡◌}
use mathlib.Core.Bool.{true}
use lib.ListN.{drop}
use Rattle.lists.specs.Lists.{joined}
use Rattle.lists.proofs.Parts.{Written}
use Rattle.corners.specs.Corners.{every, triangle_ok}
use Rattle.corners.specs.Read.{numbers_in}
use Rattle.stl.specs.Files.{facet_bytes}
use Rattle.stl.specs.Calls.{facets_lent}
use Rattle.stl_writing.proofs.writing.write_facets.Given as goal

abbrev pub invariant-loop-i : goal.invariant-loop-i
invariant-loop-i l = let v = l.vertices in
    let t = l.fn.triangles in
    let fs = facets_lent v.first.now v.second.now v.third.now v.count t.first.now t.second.now t.third.now t.count in
    (l.i ≤ t.count)
    × (every (triangle_ok v.count) (drop l.i (numbers_in t)) ≡ true)
    × Written (joined facet_bytes fs) 84 l.initial.file (joined facet_bytes (drop l.i fs)) (84 + 50 * l.i) l.file
