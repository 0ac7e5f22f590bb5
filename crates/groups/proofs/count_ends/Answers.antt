-- `groups::count_ends` meets its contract: what is left of the edges says what all of them say.
use Rattle.std.proofs.lemmas.Slice.Zip.{either_empty_from_Zip}
use native.Mathlib.Omega.{arith}
use borrow.Author.Rules.{rules}
use Rattle.groups.proofs.CountingLaws.{counting_begun, counting_more, counting_done}
use Rattle.groups.proofs.count_ends.Goals as goal

pub loop-a-init : goal.loop-a-init
loop-a-init c = counting_begun c.args.cell c.args.count c.args.first.now c.args.second.now (search rules) (search rules)

pub loop-a-preserved : goal.loop-a-preserved
loop-a-preserved c = let s = c.in-Some.ensures.steps in counting_more _ _ _ _ _ _ _ c.loop-a.invariant _ _ _ _ s.0 s.1

pub overflow_add-here : goal.overflow_add-here
overflow_add-here c =
    let s = c.in-Some.ensures.steps in
    let more = counting_more _ _ _ _ _ _ _ c.loop-a.invariant _ _ _ _ s.0 s.1 in
    omega (arith, more.own, c.requires.fits, c.requires.few)

pub overflow_add-below-in-loop-a : goal.overflow_add-below-in-loop-a
overflow_add-below-in-loop-a c =
    let s = c.in-Some.ensures.steps in
    let more = counting_more _ _ _ _ _ _ _ c.loop-a.invariant _ _ _ _ s.0 s.1 in
    omega (arith, more.ends, c.requires.fits, c.requires.few)

pub returns : goal.returns
returns c =
    let none = either_empty_from_Zip c.loop-a.a-iterator c.next.new.self c.next.result c.in-None.is c.next.ensures.steps in
    let h = counting_done _ _ _ _ _ _ _ c.loop-a.invariant none in
    λ i. record { below = h.0 i; here = h.1 i }
