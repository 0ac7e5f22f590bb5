-- `cutting::meets_of` meets its contract: of the cells that were passed it is told.
-- Assumes nothing.
use native.Mathlib.Omega.{arith}
use mathlib.Core.Path.{refl}
use mathlib.Core.Bool.{false}
use lib.ListN.{replicate}
use Rattle.cutting.proofs.MeetLaws.{none_told}
use borrow.Author.Rules.{rules}
use Rattle.cutting.proofs.meets_of.Goals as goal

pub loop-i-init : goal.loop-i-init
loop-i-init c = (omega arith, refl, none_told c.args.cells.now (replicate 196 false))

pub mark_meets-requires : goal.mark_meets-requires
mark_meets-requires c = (c.loop-i-test.true, c.requires, c.loop-i.invariant.1, c.loop-i.invariant.2)

pub loop-i-preserved : goal.loop-i-preserved
loop-i-preserved c = (omega (arith, c.loop-i-test.true), search rules, c.mark_meets.ensures)

pub returns : goal.returns
returns c =
    let v = c.loop-i.invariant in
    record { room = v.1; told = λ i l a b h. v.2 i l (omega (arith, c.loop-i-test.false, a)) b h }
