-- Laws of zeros and of words in a list of bytes.
-- Assumes nothing.
use Prim.Native.Nat.{ℕ, ◌+◌, ◌-◌, ◌/◌, ◌%◌, ◌^◌, ◌<◌, ◌≤◌}
use native.Mathlib.Nat.{add_assoc, div-div-eq-div-mul, mod-eq_of_lt}
use native.Mathlib.Omega.{arith}
use mathlib.Core.Path.{◌≡◌, refl, sym, ◌∙◌}
use mathlib.Core.Bool.{true, false, false≢true}
use mathlib.Core.List.{List, ◌++◌, append_assoc}
use lib.ListN.{drop, length, take}
use lib.Seq.{sets, sets-eq, get_or-drop}
use borrow.Rule.Slice.PartMut.{put_mid, Post-is}
use lib.Ieee.{Float, nan, inf, fin, binary32, is_nan, of_bits, nan_bits}
use lib.Ieee.Bits.{nan_bits_is, nan_bits_above}
use borrow.Author.Tests.{lt-ltb, le-ltb}
use Rattle.words.specs.Words.{bytes_of, word_from}

-- a part of a list that holds k numbers now is those numbers written one after the other
pub part_written : (l r xs : List ℕ) (at k : ℕ) → at + k ≤ length l → k ≡ length xs → r ≡ xs → put_mid at (at + k - at) l r ≡ sets l at xs
part_written l r xs at k h n e = rw (Post-is at (at + k) l (omega arith), e, n) (sym (sets-eq xs l at (omega arith) ∙ append_assoc (take at l) xs (drop (at + length xs) l)))

-- a word reads back from its four bytes
pub word_back : (w : ℕ) (rest : List ℕ) → w < 2 ^ 32 → word_from (bytes_of w ++ rest) 0 ≡ w
word_back w rest h =
    let top : w / 0x100_0000 < 0x100 = omega arith in
    omega (arith, div-div-eq-div-mul w 0x100 0x100, div-div-eq-div-mul w 0x1_0000 0x100, mod-eq_of_lt top)

-- a word further on is one of what is left
pub word_on : (bs : List ℕ) (k at : ℕ) → word_from bs (k + at) ≡ word_from (drop k bs) at
word_on bs k at =
    rw (
      add_assoc k at 1,
      add_assoc k at 2,
      add_assoc k at 3,
      get_or-drop k bs at 0,
      get_or-drop k bs (at + 1) 0,
      get_or-drop k bs (at + 2) 0,
      get_or-drop k bs (at + 3) 0,
    )

-- ---- patterns of floats

is_nan_lem : (x : Float) → is_nan x ≡ true → x ≡ nan
unfolding is_nan
is_nan_lem nan h = refl
is_nan_lem (inf s) h = absurd (false≢true h)
is_nan_lem (fin s m e) h = absurd (false≢true h)

-- above that of infinity a pattern is a NaN's, and the others are not
pub pattern_nan : (b : ℕ) → 0x7f80_0000 < b % 0x8000_0000 → of_bits binary32 b ≡ nan
pattern_nan b h = is_nan_lem (of_bits binary32 b) (sym (nan_bits_is binary32 b) ∙ nan_bits_above binary32 b ∙ lt-ltb 0x7f80_0000 (b % 0x8000_0000) h)

pub pattern_number : (b : ℕ) → b % 0x8000_0000 ≤ 0x7f80_0000 → nan_bits binary32 b ≡ false
pattern_number b h = nan_bits_above binary32 b ∙ le-ltb 0x7f80_0000 (b % 0x8000_0000) h
