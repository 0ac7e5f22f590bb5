-- `lines::hex_from` meets its contract. The loop's invariant: the digits that are left, after those read, say what all say.
use Rattle.std.proofs.Common.{◌≡◌, arith, add-one, sym, ◌∙◌}
use Rattle.lines.specs.Lines.{hex_from}
use Rattle.lines.proofs.ReadingLaws.{more_hex, few_hex, hex_more, hex_none}
use Rattle.lines.proofs.hex_from.Goals as goal

pub returns-in_err-digit : goal.returns-in_err-digit
returns-in_err-digit c =
    c.from_residual.ensures
    ∙ sym (c.loop-i.invariant.1
    ∙ hex_none 8 _ _ c.loop-i.i c.loop-i.bits c.loop-i-test.true (rw c.byte_at.ensures at c.in_err-digit.ensures.value))

pub overflow_mul-bits : goal.overflow_mul-bits
overflow_mul-bits c = omega (arith, few_hex c.loop-i.i c.loop-i.invariant.0 c.loop-i-test.true)

pub overflow_add-bits : goal.overflow_add-bits
overflow_add-bits c = omega (arith, few_hex c.loop-i.i c.loop-i.invariant.0 c.loop-i-test.true, c.in_ok-digit.ensures.below)

pub loop-i-preserved : goal.loop-i-preserved
loop-i-preserved c = (
  rw add-one (more_hex c.loop-i.i c.loop-i.invariant.0 c.in_ok-digit.ensures.below),
  c.loop-i.invariant.1
      ∙ hex_more 8 _ _ c.loop-i.i c.loop-i.bits c.loop-i-test.true c.in_ok-digit.digit (rw c.byte_at.ensures at c.in_ok-digit.ensures.value),
)

pub returns : goal.returns
unfolding hex_from
returns c =
    let e : c.loop-i.i ≡ 8 = omega arith in
    sym (rw e at c.loop-i.invariant.1)
