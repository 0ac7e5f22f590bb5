-- `marks::leave` meets its contract: the table is in order but for one place, and the way around ends.
use mathlib.Core.Path.{sym, ◌∙◌}
use native.Mathlib.Omega.{arith}
use lib.ListN.{length-set}
use Rattle.marks.proofs.Circling.{around_begun, around_set, around_on, around_less, filled_none}
use Rattle.marks.proofs.Leaving.{opened, keeps, moves, emptied}
use Rattle.marks.proofs.leave.Goals as goal

pub loop-keys-init : goal.loop-keys-init
loop-keys-init c =
    let e = c.requires in
    (around_begun _ _ _ e.1 e.0, (e.1, λ k s m. opened k _ _ _ e.1 s m))

pub returns-then-next-place : goal.returns-then-next-place
returns-then-next-place c =
    let h = c.loop-keys.invariant in
    let n = c.loop-keys-test.true in
    λ k s m. absurd (let z = filled_none _ _ _ _ _ h.0 _ c.following-next.ensures n (h.1.1 k s m).filled c.if-next-place.true in
    let y = m.room in omega arith)

pub loop-keys-smaller-then-comes_first : goal.loop-keys-smaller-then-comes_first
loop-keys-smaller-then-comes_first c =
    let h = c.loop-keys.invariant in
    around_less _ _ _ _ _ h.0 _ c.following-next.ensures c.if-next-place.false

pub loop-keys-preserved-then-comes_first : goal.loop-keys-preserved-then-comes_first
loop-keys-preserved-then-comes_first c =
    let h = c.loop-keys.invariant in
    let n = c.loop-keys-test.true in
    let e = c.following-next.ensures in
    let t = sym c.comes_first.ensures ∙ c.if-comes_first.true in
    let a = around_set _ _ _ _ _ (around_on _ _ _ _ _ h.0 _ e) _ _ _ in
    (a, (rw length-set h.0.inside, λ k s m. moves k _ _ _ _ _ _ _ h.0 (h.1.1 k s m) _ e n _ c.home.ensures t))

pub loop-keys-smaller : goal.loop-keys-smaller
loop-keys-smaller c =
    let h = c.loop-keys.invariant in
    around_less _ _ _ _ _ h.0 _ c.following-next.ensures c.if-next-place.false

pub loop-keys-preserved : goal.loop-keys-preserved
loop-keys-preserved c =
    let h = c.loop-keys.invariant in
    let n = c.loop-keys-test.true in
    let e = c.following-next.ensures in
    let t = sym c.comes_first.ensures ∙ c.if-comes_first.false in
    (around_on _ _ _ _ _ h.0 _ e, (h.1.0, λ k s m. keeps k _ _ _ _ _ _ _ h.0 (h.1.1 k s m) _ e n _ c.home.ensures t))

pub returns : goal.returns
returns c =
    let h = c.loop-keys.invariant in
    λ k s m. emptied k _ _ _ _ _ _ _ h.0 (h.1.1 k s m) c.loop-keys-test.false m _
