-- `surfaces::all_none` meets its contract: the entries that are left pass exactly when all do.
use Rattle.std.proofs.Common.{ap, not}
use mathlib.Core.Path.{refl, sym, ◌∙◌}
use native.Mathlib.Omega.{arith}
use lib.Ieee.{nan}
use Rattle.slopes.specs.Normals.{normal}
use Rattle.surfaces.specs.Stats.{is_none}
use Rattle.lists.proofs.Bools.{yes, no}
use Rattle.corners.proofs.Sets.{passes, fails, done}
use borrow.Author.Rules.{rules}
use Rattle.surfaces.proofs.all_none.Goals as goal

pub loop-i-init : goal.loop-i-init
loop-i-init c = (search rules, refl)

pub offset_bounds-first-i : goal.offset_bounds-first-i
offset_bounds-first-i c = omega arith

pub bounds-first-i : goal.bounds-first-i
bounds-first-i c = omega arith

pub offset_bounds-second-i : goal.offset_bounds-second-i
offset_bounds-second-i c = omega arith

pub bounds-second-i : goal.bounds-second-i
bounds-second-i c = omega arith

pub offset_bounds-third-i : goal.offset_bounds-third-i
offset_bounds-third-i c = omega arith

pub bounds-third-i : goal.bounds-third-i
bounds-third-i c = omega arith

pub returns-then-not-is_none : goal.returns-then-not-is_none
returns-then-not-is_none c =
    sym (c.loop-i.invariant.1
    ∙ fails normal nan _ _ _ _ c.requires _ is_none c.loop-i-test.true
    (no c.is_none.ensures (ap not c.if-not-is_none.true)))

pub loop-i-preserved : goal.loop-i-preserved
loop-i-preserved c = (
  omega arith,
  c.loop-i.invariant.1
      ∙ passes normal nan _ _ _ _ c.requires _ is_none c.loop-i-test.true
      (yes c.is_none.ensures (ap not c.if-not-is_none.false)),
)

pub returns : goal.returns
returns c = sym (c.loop-i.invariant.1 ∙ done normal nan _ _ _ _ c.requires c.loop-i.i is_none (omega arith))
