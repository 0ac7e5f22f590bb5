-- `thinning::thin` meets its contract: the marks of waiting cells that are left are those of cells further on.
use mathlib.Core.Path.{◌∙◌}
use native.Mathlib.Omega.{arith}
use lib.ListN.{length}
use Rattle.thinning.proofs.Forgetting.{thin_more, thin_done}
use Rattle.thinning.proofs.thin.Goals as goal

pub loop-i-preserved : goal.loop-i-preserved
loop-i-preserved c =
    let a = c.args in
    let l = c.loop-i in
    let d = c.forget in (
      omega (arith, c.loop-i-test.true),
      ◌∙◌ {b = length l.keys} d.auto.keys l.invariant.1,
      ◌∙◌ {b = length l.distances} d.auto.distances l.invariant.2,
      thin_more a.waiting a.cells.now a.keys.now a.distances.now l.i l.keys l.distances l.invariant.3 c.requires.1
          c.loop-i-test.true l.invariant.1 d.new.keys d.new.distances d.ensures,
    )

pub returns : goal.returns
returns c =
    let a = c.args in
    let l = c.loop-i in
    thin_done a.waiting a.cells.now a.keys.now a.distances.now l.i l.keys l.distances l.invariant.3 c.requires.1
    c.loop-i-test.false
