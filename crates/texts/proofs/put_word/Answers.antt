-- `texts::put_word` meets its contract, digit by digit.
use Rattle.std.proofs.Common.{◌≡◌, ◌-◌, ◌/◌, ◌%◌, ◌^◌, suc, arith, ◌∙◌}
use native.Mathlib.Nat.{one-le-pow}
use lib.Dec.{lit<}
use Rattle.texts.specs.Texts.{glyph, hex_field, hex_digits}
use Rattle.texts.proofs.WritingLaws.{put_as, goes_on, digit_written, weight_fits}
use Rattle.texts.proofs.put_word.Goals as goal

pub loop-place-init : goal.loop-place-init
unfolding hex_field
loop-place-init c = (omega (arith, c.put-next.ensures.ends), goes_on (hex_digits 8 c.args.word) c.put-next.ensures)

pub pow-requires : goal.pow-requires
pow-requires c = weight_fits (c.loop-place.place - 1) (omega arith)

pub nonzero_div-word : goal.nonzero_div-word
nonzero_div-word c = rw c.pow.ensures (one-le-pow (c.loop-place.place - 1) 16 (lit< tt))

pub loop-place-preserved : goal.loop-place-preserved
loop-place-preserved c =
    let k = c.loop-place.place - 1 in
    let here : c.loop-place.place ≡ suc k = omega arith in
    let digit : c.hex_digit.result ≡ glyph (c.args.word / 16 ^ k % 16) = rw c.pow.ensures at c.hex_digit.ensures in (
      omega (arith, c.put-next-in-loop-place.ensures.ends),
      digit_written k c.args.word (put_as c.put-next-in-loop-place.ensures digit) ∙ (rw here at c.loop-place.invariant.1),
    )

pub returns : goal.returns
unfolding hex_field hex_digits
returns c =
    let none_left : c.loop-place.place ≡ 0 = omega arith in
    record {
      list = rw none_left at c.loop-place.invariant.1;
      ends = omega arith;
    }
