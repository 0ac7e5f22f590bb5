-- Laws of digits read one after the other.
-- Assumes nothing.
use Rattle.std.specs.Prelude.{Some, None}
use Prim.Native.Nat.{ℕ, suc, ◌+◌, ◌-◌, ◌*◌, ◌^◌, ◌<◌}
use native.Mathlib.Nat.{pow-suc, pow-le-pow_right}
use native.Mathlib.Omega.{arith}
use mathlib.Core.Path.{◌≡◌}
use mathlib.Core.List.{List}
use lib.ListN.{get_or}
use lib.Dec.{lit<}
use Rattle.lines.specs.Lines.{digit_of, hex_from, digits_from, settings_line, reading_line, line_of}

-- a number of i digits and one more
pub more_hex : (i : ℕ) {v d : ℕ} → v < 16 ^ i → d < 16 → v * 16 + d < 16 ^ suc i
more_hex i h k = omega (arith, pow-suc 16 i)

pub more_decimal : (i : ℕ) {v d : ℕ} → v < 10 ^ i → d < 10 → v * 10 + d < 10 ^ suc i
more_decimal i h k = omega (arith, pow-suc 10 i)

-- fewer than eight hex digits
pub few_hex : (i : ℕ) {v : ℕ} → v < 16 ^ i → i < 8 → v < 0x1000_0000
few_hex i h k = omega (arith, pow-le-pow_right {n = 16} (lit< tt) {i = i} {j = 7} (omega arith))

-- after i of n digits: one more, d, or none
module _ (n : ℕ) (s : List ℕ) (at i v : ℕ) (h : i < n) where
  pub hex_more : (d : ℕ) → Some d ≡ digit_of 16 (get_or s (at + i) 0) → hex_from (n - i) s (at + i) v ≡ hex_from (n - (i + 1)) s (at + (i + 1)) (v * 16 + d)
  unfolding hex_from
  hex_more d e =
      let m : n - i ≡ suc (n - (i + 1)) = omega arith in
      let f : at + (i + 1) ≡ suc (at + i) = omega arith in
      rw (m, f, ← e)

  pub hex_none : None ≡ digit_of 16 (get_or s (at + i) 0) → hex_from (n - i) s (at + i) v ≡ None
  unfolding hex_from
  hex_none e =
      let m : n - i ≡ suc (n - (i + 1)) = omega arith in
      rw (m, ← e)

  pub digits_more : (d : ℕ) → Some d ≡ digit_of 10 (get_or s (at + i) 0)
      → digits_from (n - i) s (at + i) v ≡ digits_from (n - (i + 1)) s (at + (i + 1)) (v * 10 + d)
  unfolding digits_from
  digits_more d e =
      let m : n - i ≡ suc (n - (i + 1)) = omega arith in
      let f : at + (i + 1) ≡ suc (at + i) = omega arith in
      rw (m, f, ← e)

  pub digits_none : None ≡ digit_of 10 (get_or s (at + i) 0) → digits_from (n - i) s (at + i) v ≡ record { value = v; next = at + i }
  unfolding digits_from
  digits_none e =
      let m : n - i ≡ suc (n - (i + 1)) = omega arith in
      rw (m, ← e)

-- what a line is, by its first byte
module _ (s : List ℕ) {b : ℕ} (e : b ≡ get_or s 0 0) where
  pub settings_line_lem : b ≡ 80 → line_of s ≡ settings_line s
  unfolding line_of
  settings_line_lem f = rw (← e, f)

  pub reading_line_lem : b ≡ 68 → line_of s ≡ reading_line s
  unfolding line_of
  reading_line_lem f = rw (← e, f)
