-- Words of four bytes, the least byte first.
use Rattle.std.specs.Prelude.{ℕ, ◌+◌, ◌*◌, ◌/◌, ◌%◌, List, [], ◌∷◌, get_or, replicate}

-- so many zeros
abbrev pub zeros : ℕ → List ℕ
zeros n = replicate n 0

-- a word's four bytes
abbrev pub bytes_of : ℕ → List ℕ
bytes_of w = w % 0x100 ∷ w / 0x100 % 0x100 ∷ w / 0x1_0000 % 0x100 ∷ w / 0x100_0000 % 0x100 ∷ []

-- the word of the four bytes from a place on
abbrev pub word_from : List ℕ → ℕ → ℕ
word_from bs at = get_or bs at 0 + 0x100 * get_or bs (at + 1) 0 + 0x1_0000 * get_or bs (at + 2) 0 + 0x100_0000 * get_or bs (at + 3) 0
