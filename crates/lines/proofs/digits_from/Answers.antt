-- `lines::digits_from` meets its contract. The loop's invariant: the digits that are left, after those read, say what all say.
use Rattle.std.proofs.Common.{◌≡◌, arith, add-one, sym, ◌∙◌}
use Rattle.lines.specs.Lines.{digits_from}
use Rattle.lines.proofs.ReadingLaws.{more_decimal, digits_more, digits_none}
use Rattle.lines.proofs.digits_from.Goals as goal

pub returns-in_default-clause-value : goal.returns-in_default-clause-value
returns-in_default-clause-value c =
    sym (c.loop-i.invariant.1
    ∙ digits_none 5 _ _ c.loop-i.i c.loop-i.value c.loop-i-test.true (rw c.byte_at.ensures at c.in_default.ensures.value))

pub loop-i-preserved : goal.loop-i-preserved
loop-i-preserved c = (
  rw add-one (more_decimal c.loop-i.i c.loop-i.invariant.0 c.in-Some.ensures.below),
  c.loop-i.invariant.1
      ∙ digits_more 5 _ _ c.loop-i.i c.loop-i.value c.loop-i-test.true c.in-Some.digit (rw c.byte_at.ensures at c.in-Some.ensures.value),
)

pub returns-clause-value : goal.returns-clause-value
unfolding digits_from
returns-clause-value c =
    let e : c.loop-i.i ≡ 5 = omega arith in
    sym (rw e at c.loop-i.invariant.1)
