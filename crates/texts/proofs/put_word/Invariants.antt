-- `texts::put_word` meets its contract. The loop's invariant: the digits that are left, written from where they go on, make the whole.
-- Assumes nothing.
use Rattle.std.proofs.Common.{◌≡◌, ◌+◌}
use Rattle.std.proofs.lemmas.List.Edits.{sets}
use Rattle.texts.specs.Texts.{hex_field, hex_digits}
use Rattle.texts.proofs.put_word.Given as goal

abbrev pub invariant-loop-place : goal.invariant-loop-place
invariant-loop-place l =
    (l.next + l.place ≡ l.at + 9) × (sets l.out l.next (hex_digits l.place l.word) ≡ sets l.fn.out l.at (hex_field l.word))
