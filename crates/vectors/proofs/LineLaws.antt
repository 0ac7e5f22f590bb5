-- A line read byte by byte: at each place, what was read and what is left say what the whole says.
-- Assumes nothing.
use Rattle.std.proofs.Common.{◌≡◌, ℕ, ◌+◌, ◌*◌, ◌%◌, ◌^◌, ◌<◌, ◌≤◌, arith, true, false, eqb, List, [], ◌∷◌, length, get_or, drop, sym, refl, ◌∙◌, add-one, drop_of_length-le, drop-cons}
use mathlib.Core.List.{foldl}
use native.Mathlib.Nat.{mod-add-mod}
use lib.Bits.{bit_or, or_shifted}
use Rattle.vectors.specs.declared.Line.{Line}
use Rattle.vectors.specs.declared.Taken.{Taken}
use Rattle.vectors.specs.Vectors.{longer_line, first_line, after_line, taken_from}

-- a line read so far with the bytes from a place on, up to the first newline
abbrev pub taken_after : Line → ℕ → List ℕ → Taken
taken_after l at bs = record { line = foldl longer_line l (first_line bs); next = after_line at bs }

another : (l : Line) (at b : ℕ) (bs : List ℕ) → eqb b 10 ≡ false → taken_after l at (b ∷ bs) ≡ taken_after (longer_line l b) (at + 1) bs
unfolding first_line after_line
another l at b bs h = rw h

newline : (l : Line) (at b : ℕ) (bs : List ℕ) → eqb b 10 ≡ true → taken_after l at (b ∷ bs) ≡ record { line = l; next = at + 1 }
unfolding first_line after_line
newline l at b bs h = rw h

ended : (l : Line) (at : ℕ) → taken_after l at [] ≡ record { line = l; next = at }
unfolding first_line after_line
ended l at = refl

module _ (bytes : List ℕ) (start : ℕ) (l : Line) (i : ℕ) (left : taken_after l i (drop i bytes) ≡ taken_from bytes start) where
  -- one byte more
  pub turn : i < length bytes → eqb (get_or bytes i 0) 10 ≡ false
      → taken_after (longer_line l (get_or bytes i 0)) (i + 1) (drop (i + 1) bytes) ≡ taken_from bytes start
  turn h t = sym (another l i (get_or bytes i 0) (drop (i + 1) bytes) t) ∙ (rw (add-one, ← drop-cons bytes i 0 h) left)

  -- at a newline
  pub at_newline : i < length bytes → eqb (get_or bytes i 0) 10 ≡ true → record { line = l; next = i + 1 } ≡ taken_from bytes start
  at_newline h t = sym (newline l i (get_or bytes i 0) (drop (i + 1) bytes) t) ∙ (rw (add-one, ← drop-cons bytes i 0 h) left)

  -- at the end
  pub at_end : length bytes ≤ i → record { line = l; next = i } ≡ taken_from bytes start
  at_end h = sym (ended l i) ∙ (rw (drop_of_length-le bytes h) at left)

-- a shift by four and an or are one hexadecimal digit more
pub digit_more : (w d : ℕ) → d < 16 → bit_or (w * 2 ^ 4 % 2 ^ 64) d ≡ (w * 16 + d) % 2 ^ 64
digit_more w d h =
    let room : w * 2 ^ 4 % 2 ^ 64 ≡ w % 2 ^ 60 * 2 ^ 4 = omega arith in
    let whole : w % 2 ^ 60 * 2 ^ 4 + d ≡ (w * 16 + d) % 2 ^ 64 = omega (arith, mod-add-mod (w * 2 ^ 4) (2 ^ 64) d) in
    rw (room, or_shifted (w % 2 ^ 60) 4 d h) whole
