-- `texts::bad_line` meets its contract, part by part.
-- Assumes nothing.
use Rattle.texts.specs.Texts.{bad_line}
use Rattle.texts.proofs.WritingLaws.{more, whole}
use Rattle.texts.proofs.bad_line.Goals as goal

pub returns : goal.returns
unfolding bad_line
returns c =
    let line = whole (more c.put_text-a0.ensures (more c.put_decimal-a1.ensures.wrote c.put.ensures)) in
    record {
      value = line.0;
      out_after = line.1;
    }
