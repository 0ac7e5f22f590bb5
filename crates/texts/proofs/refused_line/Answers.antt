-- `texts::refused_line` meets its contract, part by part.
-- Assumes nothing.
use Rattle.texts.specs.Texts.{refused_line}
use Rattle.texts.proofs.WritingLaws.{more, whole}
use Rattle.texts.proofs.refused_line.Goals as goal

pub returns : goal.returns
unfolding refused_line
returns c =
    let line = whole (more c.put_text-a0.ensures (more c.put_decimal-a1.ensures.wrote c.put.ensures)) in
    record {
      value = rw (← c.from.ensures) line.0;
      out_after = rw (← c.from.ensures) line.1;
    }
