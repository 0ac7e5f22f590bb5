-- The lines that `lastcheck` prints, as bytes with the newline.
use Rattle.std.specs.Prelude.{ℕ, zero, suc, ◌+◌, ◌/◌, ◌%◌, ◌^◌, cond, List, [], ◌∷◌, ◌++◌, ltb, Float}
use Rattle.std.specs.Float.Ieee.{to_bits}
use Rattle.std.specs.Float.{binary32}
use Rattle.refusals.specs.declared.Refusal.{Refusal}
use Rattle.refusals.specs.Refusals.{number_of}

-- a digit below 16: `0` to `9`, then `a` to `f`
abbrev pub glyph : ℕ → ℕ
glyph d = cond (ltb d 10) (48 + d) (87 + d)

-- the last k hex digits of w, the most significant first
unfoldable pub hex_digits : ℕ → ℕ → List ℕ
hex_digits zero w = []
hex_digits (suc k) w = glyph (w / 16 ^ k % 16) ∷ hex_digits k w

-- a space and eight hex digits
unfoldable pub hex_field : ℕ → List ℕ
hex_field w = 32 ∷ hex_digits 8 w

-- the decimal digits of n, at most k, in front of a text
unfoldable pub decimal_from : ℕ → ℕ → List ℕ → List ℕ
decimal_from zero n text = text
decimal_from (suc k) n text = cond (ltb n 10) ((48 + n) ∷ text) (decimal_from k (n / 10) ((48 + n % 10) ∷ text))

-- a number in decimal; one of 64 bits has at most twenty digits
abbrev pub decimal : ℕ → List ℕ
decimal n = decimal_from 20 n []

-- a newline
abbrev pub newline : List ℕ
newline = 10 ∷ []

-- `rows N edges N triangles N`
unfoldable pub counts_line : ℕ → ℕ → ℕ → List ℕ
counts_line rows edges triangles =
    (114 ∷ 111 ∷ 119 ∷ 115 ∷ 32 ∷ [])
    ++ (decimal rows
    ++ ((32 ∷ 101 ∷ 100 ∷ 103 ∷ 101 ∷ 115 ∷ 32 ∷ [])
    ++ (decimal edges
    ++ ((32 ∷ 116 ∷ 114 ∷ 105 ∷ 97 ∷ 110 ∷ 103 ∷ 108 ∷ 101 ∷ 115 ∷ 32 ∷ []) ++ (decimal triangles ++ newline)))))

-- `v` and the bits of x, y and z
unfoldable pub vertex_line : Float → Float → Float → List ℕ
vertex_line x y z =
    (118 ∷ []) ++ (hex_field (to_bits binary32 x) ++ (hex_field (to_bits binary32 y) ++ (hex_field (to_bits binary32 z) ++ newline)))

-- `bad N`
unfoldable pub bad_line : ℕ → List ℕ
bad_line n = (98 ∷ 97 ∷ 100 ∷ 32 ∷ []) ++ (decimal n ++ newline)

-- `refused N`
unfoldable pub refused_line : Refusal → List ℕ
refused_line why = (114 ∷ 101 ∷ 102 ∷ 117 ∷ 115 ∷ 101 ∷ 100 ∷ 32 ∷ []) ++ (decimal (number_of why) ++ newline)
