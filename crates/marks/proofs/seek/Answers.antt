-- `marks::seek` meets its contract: the search from the place that is reached finds what the whole finds.
use native.Mathlib.Omega.{arith}
use mathlib.Core.Path.{◌≡◌, sym, ◌∙◌}
use Rattle.marks.proofs.Seeking.{seek_here, seek_on, seek_end}
use Rattle.marks.proofs.seek.Goals as goal

pub returns-then-keys-i : goal.returns-then-keys-i
returns-then-keys-i c = seek_here _ _ _ _ c.loop-i-test.true c.if-keys-i.true ∙ sym c.loop-i.invariant

pub loop-i-preserved : goal.loop-i-preserved
loop-i-preserved c = c.loop-i.invariant ∙ seek_on _ _ _ _ c.loop-i-test.true c.if-keys-i.false

pub returns : goal.returns
returns c =
    let e : c.args.to ≡ c.loop-i.i = omega (arith, c.loop-i-test.false, c.loop-i.auto.i-end) in
    e ∙ seek_end _ _ _ _ c.loop-i-test.false ∙ sym c.loop-i.invariant
