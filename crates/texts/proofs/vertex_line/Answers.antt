-- `texts::vertex_line` meets its contract, part by part.
-- Assumes nothing.
use native.Mathlib.Omega.{arith}
use mathlib.Core.Path.{sym}
use Rattle.texts.specs.Texts.{hex_field, hex_digits, vertex_line}
use Rattle.texts.proofs.WritingLaws.{more, word_as, sets_out}
use Rattle.texts.proofs.vertex_line.Goals as goal

pub put_word-a2-requires : goal.put_word-a2-requires
unfolding hex_field hex_digits
put_word-a2-requires c = omega (arith, c.put_word-a1.ensures.ends, c.put-a0.ensures.ends, c.if-at-out.true, c.well_formed.0.1)

pub put_word-a3-requires : goal.put_word-a3-requires
unfolding hex_field hex_digits
put_word-a3-requires c =
    omega (
      arith,
      c.put_word-a2.ensures.ends,
      c.put_word-a1.ensures.ends,
      c.put-a0.ensures.ends,
      c.if-at-out.true,
      c.well_formed.0.1,
    )

pub put-requires : goal.put-requires
unfolding hex_field hex_digits
put-requires c =
    omega (
      arith,
      c.put_word-a3.ensures.ends,
      c.put_word-a2.ensures.ends,
      c.put_word-a1.ensures.ends,
      c.put-a0.ensures.ends,
      c.if-at-out.true,
      c.well_formed.0.1,
    )

pub returns-then-at-out : goal.returns-then-at-out
unfolding vertex_line
returns-then-at-out c =
    (more c.put-a0.ensures
    (more (word_as c.put_word-a1.ensures c.bits_of.ensures)
    (more (word_as c.put_word-a2.ensures c.bits_of-then-at-out.ensures)
    (more (word_as c.put_word-a3.ensures
    c.bits_of-then-at-out-2.ensures)
    c.put.ensures)))).list

pub returns-else-at-out : goal.returns-else-at-out
returns-else-at-out c =
    let a = c.args in
    sym (sets_out _ _ (vertex_line a.x a.y a.z) c.if-at-out.false)
