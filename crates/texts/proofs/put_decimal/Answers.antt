-- `texts::put_decimal` meets its contract. The loop's invariant: the digits put in stand behind those that are left.
use mathlib.Core.Path.{refl}
use native.Mathlib.Omega.{arith}
use Rattle.texts.proofs.WritingLaws.{digit_again, digits_wrote, two_digits}
use Rattle.texts.proofs.put_decimal.Goals as goal

pub loop-rest-init : goal.loop-rest-init
loop-rest-init c = (omega arith, omega arith, refl, refl)

pub overflow_sub-start : goal.overflow_sub-start
overflow_sub-start c = omega (arith, two_digits _ _ c.loop-rest-test.true c.loop-rest.invariant.1)

pub loop-rest-smaller : goal.loop-rest-smaller
loop-rest-smaller c = omega (arith, two_digits _ _ c.loop-rest-test.true c.loop-rest.invariant.1)

pub loop-rest-preserved : goal.loop-rest-preserved
loop-rest-preserved c = digit_again c.args.number c.loop-rest.digits c.loop-rest.start c.loop-rest.rest c.loop-rest-test.true c.loop-rest.invariant

pub returns : goal.returns
returns c =
    let wrote = digits_wrote c.args.number c.loop-rest.digits c.loop-rest.start c.loop-rest.rest c.loop-rest-test.false
    c.loop-rest.invariant c.put_text.ensures in
    record {
      wrote = wrote.0;
      upper_bound = wrote.1;
    }
