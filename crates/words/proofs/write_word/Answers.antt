-- `words::write_word` meets its contract: the part is the word's bytes.
-- Assumes nothing.
use native.Mathlib.Omega.{arith}
use mathlib.Core.Path.{refl, ◌∙◌}
use Rattle.words.specs.Words.{bytes_of}
use Rattle.words.proofs.WordLaws.{part_written}
use Rattle.words.proofs.write_word.Goals as goal

pub returns : goal.returns
returns c = part_written c.args.list.now c.copy_from_slice.new.self (bytes_of c.args.word) c.args.at 4 (omega arith) refl (c.copy_from_slice.ensures.after ∙ c.to_le_bytes.ensures)
