-- The lines that `lastcheck` reads: bytes without the newline. Places are counted from 0; past the end stands 0, which no good line has.
use Rattle.std.specs.Prelude.{ℕ, zero, suc, ◌+◌, ◌-◌, ◌*◌, cond, ◌&&◌, List, length, get_or, leb, ltb, eqb, Some, None, Option}
use Rattle.lines.specs.declared.Line.{Line}
use Rattle.lines.specs.declared.Line.TheVariants.{Settings, Reading, Mesh}
use Rattle.lines.specs.declared.Digits.{Digits}

-- the value of `0` to `9`, then of `a` to `f`
abbrev pub glyph_of : ℕ → Option ℕ
glyph_of b = cond (leb 48 b && leb b 57) (Some (b - 48)) (cond (leb 97 b && leb b 102) (Some (b - 87)) None)

-- what is below a radix
abbrev pub below : ℕ → Option ℕ → Option ℕ
below radix (Some d) = cond (ltb d radix) (Some d) None
below radix None = None

-- the value of a digit below a radix
unfoldable pub digit_of : ℕ → ℕ → Option ℕ
digit_of radix b = below radix (glyph_of b)

-- a digit more, or what is said where there is none
abbrev pub with_digit : {A : Type 0} → Option ℕ → (ℕ → A) → A → A
with_digit (Some d) more none = more d
with_digit None more none = none

-- n hex digits from a place on, after digits of value v
unfoldable pub hex_from : ℕ → List ℕ → ℕ → ℕ → Option ℕ
hex_from zero s at v = Some v
hex_from (suc n) s at v = with_digit (digit_of 16 (get_or s at 0)) (λ d. hex_from n s (suc at) (v * 16 + d)) None

-- a space and eight hex digits: the bits of a float
unfoldable pub word_at : List ℕ → ℕ → Option ℕ
word_at s at = cond (eqb (get_or s at 0) 32) (hex_from 8 s (at + 1) 0) None

-- the decimal digits from a place on, at most n, after digits of value v
unfoldable pub digits_from : ℕ → List ℕ → ℕ → ℕ → Digits
digits_from zero s at v = record { value = v; next = at }
digits_from (suc n) s at v =
    with_digit (digit_of 10 (get_or s at 0)) (λ d. digits_from n s (suc at) (v * 10 + d)) (record { value = v; next = at })

-- at most 65,535
abbrev pub coordinate : Digits → Option (ℕ × ℕ)
coordinate d = cond (leb d.value 65535) (Some (d.value, d.next)) None

-- a space and a coordinate in decimal: 0 alone, or at most five digits of which the first is not 0
unfoldable pub number_at : List ℕ → ℕ → Option (ℕ × ℕ)
number_at s at =
    cond (eqb (get_or s at 0) 32)
    (cond (eqb (get_or s (at + 1) 0) 48) (Some (0, at + 1 + 1))
    (with_digit (digit_of 10 (get_or s (at + 1) 0)) (λ d. coordinate (digits_from 5 s (at + 1) 0)) None))
    None

-- a line goes on after a word or a number, and is none where it is missing
abbrev pub with_word : Option ℕ → (ℕ → Option Line) → Option Line
with_word (Some v) rest = rest v
with_word None rest = None

abbrev pub with_number : Option (ℕ × ℕ) → (ℕ → ℕ → Option Line) → Option Line
with_number (Some (v, next)) rest = rest v next
with_number None rest = None

-- nothing after the place n
abbrev pub ends_at : ℕ → List ℕ → Line → Option Line
ends_at n s l = cond (eqb (length s) n) (Some l) None

-- `P`: truncation, maximum weight and size as bits
unfoldable pub settings_line : List ℕ → Option Line
settings_line s =
    with_word (word_at s 1) λ t.
    with_word (word_at s 10) λ w.
    with_word (word_at s 19) λ z.
    ends_at 28 s (Settings t w z)

-- `D`: x, y, z in decimal, distance and confidence as bits
unfoldable pub reading_line : List ℕ → Option Line
reading_line s =
    with_number (number_at s 1) λ x p.
    with_number (number_at s p) λ y q.
    with_number (number_at s q) λ z r.
    with_word (word_at s r) λ d.
    with_word (word_at s (r + 9)) λ c.
    ends_at (r + 18) s (Reading x y z d c)

-- what a line is, none where it is bad: by its first byte, `P`, `D` or `M`
unfoldable pub line_of : List ℕ → Option Line
line_of s =
    cond (eqb (get_or s 0 0) 80) (settings_line s)
    (cond (eqb (get_or s 0 0) 68) (reading_line s)
    (cond (eqb (get_or s 0 0) 77) (ends_at 1 s Mesh) None))
