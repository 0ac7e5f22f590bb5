-- `marks::enter` meets its contract: the label in hand has passed only larger ones, and the way around ends.
use native.Mathlib.Omega.{arith}
use Rattle.marks.proofs.Circling.{around_begun, around_set, around_on, around_less, filled_none}
use Rattle.marks.proofs.Entering.{no_list, carried, goes_on, gives_up, entered}
use Rattle.marks.proofs.enter.Goals as goal

pub returns-then-keys-place : goal.returns-then-keys-place
returns-then-keys-place c = λ m. absurd (let z = no_list _ _ _ _ c.if-keys-place.true m in let y = m.room in omega arith)

pub loop-keys-init : goal.loop-keys-init
loop-keys-init c =
    let l = c.if-keys-place.false in
    (around_begun _ _ _ l c.requires, λ m. carried _ _ _ _ _ _ c.label-k.ensures l m)

pub returns-then-next-place : goal.returns-then-next-place
returns-then-next-place c =
    let h = c.loop-keys.invariant in
    let n = c.loop-keys-test.true in
    let e = c.following-next.ensures in
    λ m. absurd (let z = filled_none _ _ _ _ _ h.0 _ e n (h.1 m).filled c.if-next-place.true in let y = m.room in omega arith)

pub loop-keys-smaller-then-here-k : goal.loop-keys-smaller-then-here-k
loop-keys-smaller-then-here-k c =
    let h = c.loop-keys.invariant in
    around_less _ _ _ _ _ h.0 _ c.following-next.ensures c.if-next-place.false

pub loop-keys-preserved-then-here-k : goal.loop-keys-preserved-then-here-k
loop-keys-preserved-then-here-k c =
    let h = c.loop-keys.invariant in
    let n = c.loop-keys-test.true in
    let e = c.following-next.ensures in
    (around_set _ _ _ _ _ (around_on _ _ _ _ _ h.0 _ e) _ _ _, λ m. gives_up _ _ _ _ _ _ _ _ _ _ h.0 (h.1 m) _ e n c.if-here-k.true)

pub loop-keys-smaller : goal.loop-keys-smaller
loop-keys-smaller c =
    let h = c.loop-keys.invariant in
    around_less _ _ _ _ _ h.0 _ c.following-next.ensures c.if-next-place.false

pub loop-keys-preserved : goal.loop-keys-preserved
loop-keys-preserved c =
    let h = c.loop-keys.invariant in
    let n = c.loop-keys-test.true in
    let e = c.following-next.ensures in
    (around_on _ _ _ _ _ h.0 _ e, λ m. goes_on _ _ _ _ _ _ _ _ _ _ h.0 (h.1 m) _ e n c.if-here-k.false)

pub returns : goal.returns
returns c =
    let h = c.loop-keys.invariant in
    λ m. entered _ _ _ _ _ _ _ _ _ _ h.0 (h.1 m) c.loop-keys-test.false
