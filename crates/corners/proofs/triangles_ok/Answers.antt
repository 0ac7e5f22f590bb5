-- `corners::triangles_ok` meets its contract: the entries that are left pass exactly when all do.
use Rattle.std.proofs.Common.{ap, not}
use mathlib.Core.Path.{refl, sym, ◌∙◌}
use native.Mathlib.Omega.{arith}
use Rattle.corners.specs.Corners.{triangle, triangle_ok}
use Rattle.lists.proofs.Bools.{yes, no}
use Rattle.corners.proofs.Sets.{passes, fails, done}
use borrow.Author.Rules.{rules}
use Rattle.corners.proofs.triangles_ok.Goals as goal

pub loop-i-init : goal.loop-i-init
loop-i-init c = (search rules, refl)

pub offset_bounds-first-i : goal.offset_bounds-first-i
offset_bounds-first-i c = omega arith

pub bounds-first-i : goal.bounds-first-i
bounds-first-i c = omega arith

pub offset_bounds-second-i : goal.offset_bounds-second-i
offset_bounds-second-i c = omega arith

pub bounds-second-i : goal.bounds-second-i
bounds-second-i c = omega arith

pub offset_bounds-third-i : goal.offset_bounds-third-i
offset_bounds-third-i c = omega arith

pub bounds-third-i : goal.bounds-third-i
bounds-third-i c = omega arith

pub returns-then-not-triangle_ok : goal.returns-then-not-triangle_ok
returns-then-not-triangle_ok c =
    sym (c.loop-i.invariant.1
    ∙ fails triangle 0 _ _ _ _ c.requires _ (triangle_ok c.args.vertices)
    c.loop-i-test.true
    (no c.triangle_ok.ensures (ap not c.if-not-triangle_ok.true)))

pub loop-i-preserved : goal.loop-i-preserved
loop-i-preserved c = (
  omega arith,
  c.loop-i.invariant.1
      ∙ passes triangle 0 _ _ _ _ c.requires _ (triangle_ok c.args.vertices)
      c.loop-i-test.true
      (yes c.triangle_ok.ensures (ap not c.if-not-triangle_ok.false)),
)

pub returns : goal.returns
returns c = sym (c.loop-i.invariant.1 ∙ done triangle 0 _ _ _ _ c.requires c.loop-i.i (triangle_ok c.args.vertices) (omega arith))
