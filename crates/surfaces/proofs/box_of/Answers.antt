-- `surfaces::box_of` meets its contract: what is left of the vertices says what all of them say.
use mathlib.Core.Path.{sym, ◌∙◌}
use native.Mathlib.Omega.{arith}
use Rattle.surfaces.proofs.BoxLaws.{box_none, box_first, box_more, box_done}
use Rattle.surfaces.proofs.box_of.Goals as goal

pub returns-then-count-eq0 : goal.returns-then-count-eq0
returns-then-count-eq0 c = box_none _ _ _ _ c.if-count-eq0.true

pub vertex_at-low-requires : goal.vertex_at-low-requires
vertex_at-low-requires c = omega (arith, c.if-count-eq0.false, c.requires.fits, c.requires.second, c.requires.third)

pub loop-i-init : goal.loop-i-init
loop-i-init c = (omega (arith, c.if-count-eq0.false), box_first _ _ _ _ c.requires (omega (arith, c.if-count-eq0.false)) _ c.vertex_at-low.ensures)

pub vertex_at-v-requires : goal.vertex_at-v-requires
vertex_at-v-requires c = omega (arith, c.loop-i-test.true, c.requires.fits, c.requires.second, c.requires.third)

pub loop-i-preserved : goal.loop-i-preserved
loop-i-preserved c = (
  omega arith,
  c.loop-i.invariant.1
      ∙ box_more _ _ _ _ c.requires c.loop-i.i c.loop-i-test.true _ _ _ _ _
      c.vertex_at-v.ensures c.lower_of-low.ensures c.upper_of-high.ensures,
)

pub returns : goal.returns
returns c = sym (c.loop-i.invariant.1 ∙ box_done _ _ _ _ c.requires c.loop-i.i (omega arith) _ _)
