-- `texts::put_text` meets its contract. The loop's invariant: the bytes passed are written.
-- Assumes nothing.
use Rattle.std.proofs.Common.{◌≡◌, ◌+◌, take}
use Rattle.std.proofs.lemmas.List.Edits.{sets}
use Rattle.texts.proofs.put_text.Given as goal

abbrev pub invariant-loop-byte : goal.invariant-loop-byte
invariant-loop-byte l = (l.next ≡ l.at + l.byte-index) × (l.out ≡ sets l.initial.out l.at (take l.byte-index l.text))
