-- The lines of stored answers, what their words say, the field that they build and the score (compare/VECTORS.md). Bytes by their numbers.
use Rattle.std.specs.Prelude.{ℕ, ◌+◌, ◌-◌, ◌*◌, ◌/◌, ◌%◌, ◌^◌, Bool, true, false, cond, not, ◌&&◌, ◌||◌, List, [], ◌∷◌, drop, replicate, ℤ, pos, neg_ℤ, ◌==◌, nat_le, nat_lt, slice_index, slice_set, unwrap_or, Float}
use mathlib.Core.List.{foldl}
use Rattle.std.specs.Float.Ieee.{eq}
use Rattle.floats.specs.Floats.{f32, zero32, sign_of}
use Rattle.lines.specs.Lines.{digit_of}
use Rattle.table.specs.Table.{settings_of}
use Rattle.vectors.specs.declared.Line.{Line}
use Rattle.vectors.specs.declared.Taken.{Taken}
use Rattle.vectors.specs.declared.Field.{Field}
use Rattle.vectors.specs.declared.Score.{Score}

-- ---- a line

-- the value of a hex digit; 0 for any other byte
abbrev pub digit_value : ℕ → ℕ
digit_value b = unwrap_or (digit_of 16 b) 0

-- no letter, and no words in a room of 16
abbrev pub blank_line : Line
blank_line = record { letter = 0; words = replicate 16 0; count = 0 }

-- one word more, 0 so far; a full line stays as it is
unfoldable pub with_word : Line → Line
with_word l = cond (nat_lt l.count 16) (record { letter = l.letter; words = slice_set l.words l.count 0; count = l.count + 1 }) l

-- a digit more at the end of the last word, which keeps its last sixteen; a line without words stays as it is
unfoldable pub with_digit : Line → ℕ → Line
with_digit l d =
    let last = l.count - 1 in
    cond (nat_le 1 l.count && nat_le l.count 16)
    (record { letter = l.letter; words = slice_set l.words last ((slice_index l.words last * 16 + d) % 2 ^ 64); count = l.count })
    l

-- one byte more: the letter, a space before a word, or a digit of it
unfoldable pub longer_line : Line → ℕ → Line
longer_line l b =
    cond (l.letter == 0) (record { letter = b; words = l.words; count = 0 })
    (cond (b == 32) (with_word l) (with_digit l (digit_value b)))

-- the letter and the words of a line's bytes
abbrev pub line_of : List ℕ → Line
line_of bytes = foldl longer_line blank_line bytes

-- the bytes before the first newline; all where there is none
unfoldable pub first_line : List ℕ → List ℕ
first_line [] = []
first_line (b ∷ bs) = cond (b == 10) [] (b ∷ first_line bs)

-- the place after the first newline of the bytes that stand from a place on; their end where there is none
unfoldable pub after_line : ℕ → List ℕ → ℕ
after_line at [] = at
after_line at (b ∷ bs) = cond (b == 10) (at + 1) (after_line (at + 1) bs)

-- the line that begins at a place, and where the next one begins
abbrev pub taken_from : List ℕ → ℕ → Taken
taken_from bytes start = record { line = line_of (first_line (drop start bytes)); next = after_line start (drop start bytes) }

-- ---- what a word says

-- the low 16 bits
abbrev pub low16_of : ℕ → ℕ
low16_of word = word % 0x1_0000

-- the low 32 bits
abbrev pub low32_of : ℕ → ℕ
low32_of word = word % 0x1_0000_0000

-- the low 32 bits as two's complement: below 2 ^ 31 themselves, and otherwise 2 ^ 32 less
unfoldable pub signed_of : ℕ → ℤ
signed_of word = cond (nat_lt (low32_of word) 0x8000_0000) (pos (low32_of word)) (neg_ℤ (pos (0x1_0000_0000 - low32_of word)))

-- the exponent's field is all ones: a pattern of an infinity or a NaN
abbrev pub not_finite : ℕ → Bool
not_finite bits = bits % 0x8000_0000 / 0x80_0000 == 255

-- the float whose pattern is the low 32 bits; 0 for a pattern of an infinity or a NaN
unfoldable pub float_of : ℕ → Float
float_of word = cond (not_finite (low32_of word)) zero32 (f32 (low32_of word))

-- equal and of one sign, so that 0 and -0 differ; no NaN is the same as anything
abbrev pub same_float : Float → Float → Bool
same_float a b = eq a b && eq (sign_of a) (sign_of b)

-- ---- the field

-- no rows, under the settings of the first four words
unfoldable pub empty_field : List ℕ → Field
empty_field words =
    record {
      settings = settings_of (float_of (slice_index words 0)) (float_of (slice_index words 1)) (float_of (slice_index words 2)) (float_of (slice_index words 3));
      keys = replicate 32 0;
      distances = replicate 32 zero32;
      weights = replicate 32 zero32;
      rows = 0;
    }

-- one row more, its key, distance and weight the first three words; a field of 32 rows stays as it is
unfoldable pub with_row : Field → List ℕ → Field
with_row f words =
    cond (nat_lt f.rows 32)
    (record {
      settings = f.settings;
      keys = slice_set f.keys f.rows (slice_index words 0);
      distances = slice_set f.distances f.rows (float_of (slice_index words 1));
      weights = slice_set f.weights f.rows (float_of (slice_index words 2));
      rows = f.rows + 1;
    })
    f

-- `S` begins a field, `R` adds a row, and any other line leaves it
unfoldable pub field_after : Field → Line → Field
field_after f l = cond (l.letter == 83) (empty_field l.words) (cond (l.letter == 82) (with_row f l.words) f)

-- ---- the score

-- nothing asked yet
abbrev pub no_score : Score
no_score = record { asked = 0; again = 0; changed = 0; seen = 0; changes = false }

-- the same counts; whether the next answer is changed
abbrev pub changing : Score → Bool → Score
changing s b = record { asked = s.asked; again = s.again; changed = s.changed; seen = s.seen; changes = b }

-- a counter of 64 bits, one further if so
unfoldable pub counted_if : Bool → ℕ → ℕ
counted_if b n = cond b ((n + 1) % 2 ^ 64) n

-- one answer more: a changed one is seen if it did not come out, any other is given again if it did; the next one is not changed
unfoldable pub answered_score : Score → Bool → Score
answered_score s good =
    cond s.changes
    (record { asked = s.asked; again = s.again; changed = counted_if true s.changed; seen = counted_if (not good) s.seen; changes = false })
    (record { asked = counted_if true s.asked; again = counted_if good s.again; changed = s.changed; seen = s.seen; changes = false })

-- `S` and `R` ask for nothing, `!` says that the next answer is changed, and any other line is an answer
unfoldable pub scored_line : Score → ℕ → Bool → Score
scored_line s letter good =
    cond (letter == 83 || letter == 82) s
    (cond (letter == 33) (changing s true) (answered_score s good))
