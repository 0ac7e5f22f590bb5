-- `stl::writing::write_facets` meets its contract: the triangles that are left are written from where they go on.
use Prim.Native.Nat.{ℕ, ◌<◌}
use native.Mathlib.Omega.{arith}
use mathlib.Core.List.{List}
use lib.Ieee.{Float}
use lib.ListN.{length}
use Rattle.lists.proofs.Parts.{written_begun, written_ended}
use Rattle.corners.specs.Corners.{triangle, triangle_ok}
use Rattle.corners.specs.Steps.{Lent}
use Rattle.corners.proofs.Sets.{others_pass}
use Rattle.surfaces.proofs.AreaLaws.{named}
use Rattle.stl.proofs.WritingLaws.{corners_ok, facet_written, facets_end}
use borrow.Author.Rules.{rules}
use Rattle.stl_writing.proofs.writing.write_facets.Goals as goal

-- what is asked of a number below the count: it is a place of all three lists
asked : {px py pz : List Float} {n : ℕ} (k : ℕ) → Lent px py pz n → k < n → (k < length px) × (k < length py) × (k < length pz)
asked k l h = omega (arith, l.fits, l.second, l.third)

pub loop-i-init : goal.loop-i-init
loop-i-init c = (search rules, c.requires.named, written_begun _ 84 c.args.file.now)

pub offset_bounds-first-i : goal.offset_bounds-first-i
offset_bounds-first-i c = omega (arith, c.loop-i-test.true, c.requires.triangles.fits, c.requires.triangles.second, c.requires.triangles.third)

pub bounds-first-i : goal.bounds-first-i
bounds-first-i c = omega (arith, c.loop-i-test.true, c.requires.triangles.fits, c.requires.triangles.second, c.requires.triangles.third)

pub vertex_at-a-requires : goal.vertex_at-a-requires
vertex_at-a-requires c =
    asked _ c.requires.vertices
    (named _ _ _ _ c.requires.vertices _ _ _ _ c.requires.triangles c.loop-i.i c.loop-i-test.true c.loop-i.invariant.1).0

pub offset_bounds-second-i : goal.offset_bounds-second-i
offset_bounds-second-i c = omega (arith, c.loop-i-test.true, c.requires.triangles.fits, c.requires.triangles.second, c.requires.triangles.third)

pub bounds-second-i : goal.bounds-second-i
bounds-second-i c = omega (arith, c.loop-i-test.true, c.requires.triangles.fits, c.requires.triangles.second, c.requires.triangles.third)

pub vertex_at-b-requires : goal.vertex_at-b-requires
vertex_at-b-requires c =
    asked _ c.requires.vertices
    (named _ _ _ _ c.requires.vertices _ _ _ _ c.requires.triangles c.loop-i.i c.loop-i-test.true c.loop-i.invariant.1).1

pub offset_bounds-third-i : goal.offset_bounds-third-i
offset_bounds-third-i c = omega (arith, c.loop-i-test.true, c.requires.triangles.fits, c.requires.triangles.second, c.requires.triangles.third)

pub bounds-third-i : goal.bounds-third-i
bounds-third-i c = omega (arith, c.loop-i-test.true, c.requires.triangles.fits, c.requires.triangles.second, c.requires.triangles.third)

pub vertex_at-c-requires : goal.vertex_at-c-requires
vertex_at-c-requires c =
    asked _ c.requires.vertices
    (named _ _ _ _ c.requires.vertices _ _ _ _ c.requires.triangles c.loop-i.i c.loop-i-test.true c.loop-i.invariant.1).2

pub overflow_mul-i : goal.overflow_mul-i
overflow_mul-i c = omega (arith, c.loop-i-test.true, c.requires.few)

pub overflow_add-i : goal.overflow_add-i
overflow_add-i c = omega (arith, c.loop-i-test.true, c.requires.few)

pub write_facet-requires : goal.write_facet-requires
write_facet-requires c =
    record {
      at_in_bounds = omega (arith, c.loop-i-test.true, c.requires.fits, c.loop-i.invariant.2.long);
      a_value = corners_ok _ _ _ _ _ _ _ _ _ c.requires c.loop-i.i c.loop-i-test.true c.loop-i.invariant.1 _ _ _
          c.vertex_at-a.ensures c.vertex_at-b.ensures c.vertex_at-c.ensures;
    }

pub loop-i-preserved : goal.loop-i-preserved
loop-i-preserved c =
    let h = c.loop-i-test.true in
    let v = c.loop-i.invariant in (
      omega arith,
      others_pass triangle 0 _ _ _ _ c.requires.triangles _ (triangle_ok c.args.vertices.now.count) h v.1,
      facet_written _ _ _ _ _ _ _ _ _ c.requires c.loop-i.i h v.1 _ _ _
          c.vertex_at-a.ensures c.vertex_at-b.ensures
          c.vertex_at-c.ensures _ _ _ v.2 c.write_facet.ensures,
    )

pub returns : goal.returns
returns c = written_ended _ 84 _ _ _ _ (facets_end _ _ _ _ _ _ _ _ _ c.requires c.loop-i.i (omega arith)) c.loop-i.invariant.2
