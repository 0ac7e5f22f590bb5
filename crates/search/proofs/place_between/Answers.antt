-- `search::place_between` meets its contract: what is left of the search ends where the whole does.
use native.Mathlib.Omega.{arith}
use mathlib.Core.Path.{sym, ◌∙◌}
use Rattle.search.proofs.KeyLaws.{goes_up, goes_down, ends}
use Rattle.search.proofs.place_between.Goals as goal

pub loop-low-preserved-then-keys-middle : goal.loop-low-preserved-then-keys-middle
loop-low-preserved-then-keys-middle c =
    let t = c.loop-low-test.true in
    let h = c.loop-low.invariant.0 in
    (h, c.loop-low.invariant.1 ∙ goes_up _ _ _ _ _ t (omega (arith, h)) c.if-keys-middle.true)

pub loop-low-preserved : goal.loop-low-preserved
loop-low-preserved c =
    let t = c.loop-low-test.true in
    let h = c.loop-low.invariant.0 in
    (omega (arith, h), c.loop-low.invariant.1 ∙ goes_down _ _ _ _ _ t (omega (arith, h)) c.if-keys-middle.false)

pub returns : goal.returns
returns c = sym (c.loop-low.invariant.1 ∙ ends _ _ _ _ _ c.loop-low-test.false)
