-- `surfaces::area_of` meets its contract: what is left of the triangles says what all of them say.
use Prim.Native.Nat.{ℕ, ◌<◌}
use mathlib.Core.Path.{refl, sym, ◌∙◌}
use native.Mathlib.Omega.{arith}
use lib.ListN.{length}
use mathlib.Core.List.{List}
use lib.Ieee.{Float, of_bits}
use Rattle.corners.specs.Corners.{triangle, triangle_ok}
use Rattle.corners.specs.Steps.{Lent}
use Rattle.corners.proofs.Sets.{others_pass}
use Rattle.surfaces.proofs.AreaLaws.{named, area_more, area_done}
use borrow.Author.Rules.{rules}
use Rattle.surfaces.proofs.area_of.Goals as goal

-- what is asked of a number below the count: it is a place of all three lists
asked : {px py pz : List Float} {n : ℕ} (k : ℕ) → Lent px py pz n → k < n → (k < length px) × (k < length py) × (k < length pz)
asked k l h = omega (arith, l.fits, l.second, l.third)

pub loop-i-init : goal.loop-i-init
unfolding of_bits
loop-i-init c = (search rules, c.requires.triangles_value, refl)

pub offset_bounds-first-i : goal.offset_bounds-first-i
offset_bounds-first-i c = omega (arith, c.loop-i-test.true, c.requires.lent_2.fits, c.requires.lent_2.second, c.requires.lent_2.third)

pub bounds-first-i : goal.bounds-first-i
bounds-first-i c = omega (arith, c.loop-i-test.true, c.requires.lent_2.fits, c.requires.lent_2.second, c.requires.lent_2.third)

pub vertex_at-v0-requires : goal.vertex_at-v0-requires
vertex_at-v0-requires c =
    asked _ c.requires.lent
    (named _ _ _ _ c.requires.lent _ _ _ _ c.requires.lent_2 c.loop-i.i c.loop-i-test.true c.loop-i.invariant.1).0

pub offset_bounds-second-i : goal.offset_bounds-second-i
offset_bounds-second-i c = omega (arith, c.loop-i-test.true, c.requires.lent_2.fits, c.requires.lent_2.second, c.requires.lent_2.third)

pub bounds-second-i : goal.bounds-second-i
bounds-second-i c = omega (arith, c.loop-i-test.true, c.requires.lent_2.fits, c.requires.lent_2.second, c.requires.lent_2.third)

pub vertex_at-v1-requires : goal.vertex_at-v1-requires
vertex_at-v1-requires c =
    asked _ c.requires.lent
    (named _ _ _ _ c.requires.lent _ _ _ _ c.requires.lent_2 c.loop-i.i c.loop-i-test.true c.loop-i.invariant.1).1

pub offset_bounds-third-i : goal.offset_bounds-third-i
offset_bounds-third-i c = omega (arith, c.loop-i-test.true, c.requires.lent_2.fits, c.requires.lent_2.second, c.requires.lent_2.third)

pub bounds-third-i : goal.bounds-third-i
bounds-third-i c = omega (arith, c.loop-i-test.true, c.requires.lent_2.fits, c.requires.lent_2.second, c.requires.lent_2.third)

pub vertex_at-v2-requires : goal.vertex_at-v2-requires
vertex_at-v2-requires c =
    asked _ c.requires.lent
    (named _ _ _ _ c.requires.lent _ _ _ _ c.requires.lent_2 c.loop-i.i c.loop-i-test.true c.loop-i.invariant.1).2

pub loop-i-preserved : goal.loop-i-preserved
loop-i-preserved c =
    let h = c.loop-i-test.true in
    let v = c.loop-i.invariant in (
      omega arith,
      others_pass triangle 0 _ _ _ _ c.requires.lent_2 _ (triangle_ok c.args.vertices.now.count) h v.1,
      v.2
          ∙ area_more _ _ _ _ c.requires.lent _ _ _ _ c.requires.lent_2 c.loop-i.i h v.1 _ _ _ _ _ _
          c.vertex_at-v0.ensures
          c.vertex_at-v1.ensures c.vertex_at-v2.ensures c.area_between-area.ensures
          refl,
    )

pub returns : goal.returns
returns c = sym (c.loop-i.invariant.2 ∙ area_done _ _ _ _ c.requires.lent _ _ _ _ c.requires.lent_2 c.loop-i.i _ (omega arith))
