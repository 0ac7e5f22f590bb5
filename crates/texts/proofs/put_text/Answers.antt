-- `texts::put_text` meets its contract. The loop's invariant: the bytes passed are written.
use Rattle.std.proofs.Common.{◌≡◌, length, arith, refl, ◌∙◌}
use lib.Seq.{take-length}
use Rattle.texts.proofs.WritingLaws.{text_more}
use Rattle.texts.proofs.put_text.Goals as goal

pub loop-byte-init : goal.loop-byte-init
loop-byte-init c = (omega arith, refl)

pub loop-byte-preserved : goal.loop-byte-preserved
loop-byte-preserved c =
    let i = c.loop-byte.byte-index in (
      omega (arith, c.put-next.ensures.ends),
      text_more _ _ _ i (omega arith) c.loop-byte.invariant.1 (rw c.loop-byte.invariant.0 at c.put-next.ensures),
    )

pub returns : goal.returns
returns c =
    let all : c.loop-byte.byte-index ≡ length c.args.text.now = omega arith in
    record {
      list = c.loop-byte.invariant.1 ∙ rw (all, take-length c.args.text.now);
      ends = omega arith;
    }
