-- A line of more than 37 bytes is bad: every field ends within its widest form. So the program keeps no more than 38 bytes of a line.
-- Assumes nothing.
use Rattle.std.specs.Prelude.{Some, None, Option}
use Prim.Native.Nat.{ℕ, zero, suc, ◌+◌, ◌*◌, ◌<◌, ◌≤◌}
use native.Mathlib.Omega.{arith}
use mathlib.Core.Path.{◌≡◌, refl, sym, ap, ◌∙◌}
use mathlib.Core.Bool.{Bool, cond}
use mathlib.Core.List.{List}
use lib.ListN.{length, get_or, take}
use lib.Seq.{take_all, length-take-le}
use lib.Dec.{leb, eqb}
use borrow.Author.Tests.{leb-true, leb-false, ne_eqb}
use Rattle.lists.proofs.Bools.{cases}
use Rattle.lines.specs.declared.Line.{Line}
use Rattle.lines.specs.declared.Line.TheVariants.{Mesh}
use Rattle.lines.specs.declared.Digits.{Digits}
use Rattle.lines.specs.Lines.{digit_of, with_digit, digits_from, coordinate, number_at, word_at, with_word, with_number, ends_at, settings_line, reading_line, line_of}
use Rattle.lines.specs.Steps.{end_of}

-- with one digit more or without
one_more : (o : Option ℕ) (more : ℕ → Digits) (none : Digits) (at n : ℕ) → none.next ≤ at → ((d : ℕ) → (more d).next ≤ suc at + n)
    → (with_digit o more none).next ≤ at + suc n
one_more (Some d) more none at n h f = omega (arith, f d)
one_more None more none at n h f = omega arith

-- digits end within their number
digits_end : (n : ℕ) (s : List ℕ) (at v : ℕ) → (digits_from n s at v).next ≤ at + n
unfolding digits_from
digits_end zero s at v = omega arith
digits_end (suc n) s at v = one_more (digit_of 10 (get_or s at 0)) _ _ at n (omega arith) (λ d. digits_end n s (suc at) (v * 10 + d))

coordinate_end : (d : Digits) (n : ℕ) → d.next ≤ n → end_of (coordinate d) ≤ n
coordinate_end d n h =
    cases (λ (b : Bool). end_of (cond b (Some (d.value, d.next)) None) ≤ n) (leb d.value 65535) (λ e. h) (λ e. omega arith)

-- a number, or none where there is no digit
either : (o : Option ℕ) (n : Option (ℕ × ℕ)) (e : ℕ) → end_of n ≤ e → end_of (with_digit o (λ d. n) None) ≤ e
either (Some d) n e h = h
either None n e h = omega arith

-- a number ends within its space and five digits
number_end : (s : List ℕ) (at : ℕ) → end_of (number_at s at) ≤ at + 6
unfolding number_at
number_end s at =
    let digits = coordinate (digits_from 5 s (at + 1) 0) in
    let one = with_digit (digit_of 10 (get_or s (at + 1) 0)) (λ d. digits) None in
    cases (λ (b : Bool). end_of (cond b (cond (eqb (get_or s (at + 1) 0) 48) (Some (0, at + 1 + 1)) one) None) ≤ at + 6)
    (eqb (get_or s at 0) 32)
    (λ e.
    cases (λ (b : Bool). end_of (cond b (Some (0, at + 1 + 1)) one) ≤ at + 6) (eqb (get_or s (at + 1) 0) 48)
    (λ e. omega arith)
    (λ e. either (digit_of 10 (get_or s (at + 1) 0)) digits (at + 6) (coordinate_end (digits_from 5 s (at + 1) 0) (at + 6) (omega (arith, digits_end 5 s (at + 1) 0)))))
    (λ e. omega arith)

-- what is bad after every field is bad
bad_number : (m : Option (ℕ × ℕ)) (n : ℕ) (rest : ℕ → ℕ → Option Line) → end_of m ≤ n → ((v p : ℕ) → p ≤ n → rest v p ≡ None) → with_number m rest ≡ None
bad_number (Some (v, p)) n rest h f = f v p h
bad_number None n rest h f = refl

bad_word : (w : Option ℕ) (rest : ℕ → Option Line) → ((v : ℕ) → rest v ≡ None) → with_word w rest ≡ None
bad_word (Some v) rest f = f v
bad_word None rest f = refl

module _ (s : List ℕ) (long : 37 < length s) where
  bad_end : (n : ℕ) (l : Line) → n ≤ 37 → ends_at n s l ≡ None
  bad_end n l h = rw (ne_eqb (length s) n (λ e. omega arith))

  long_settings : settings_line s ≡ None
  unfolding settings_line
  long_settings =
      bad_word (word_at s 1) _ (λ t. bad_word (word_at s 10) _ (λ w. bad_word (word_at s 19) _ (λ z. bad_end 28 _ (omega arith))))

  long_reading : reading_line s ≡ None
  unfolding reading_line
  long_reading =
      bad_number (number_at s 1) 7 _ (number_end s 1)
      (λ x p hp.
      bad_number (number_at s p) 13 _ (omega (arith, number_end s p))
      (λ y q hq.
      bad_number (number_at s q) 19 _ (omega (arith, number_end s q))
      (λ z r hr. bad_word (word_at s r) _ (λ d. bad_word (word_at s (r + 9)) _ (λ c. bad_end (r + 18) _ (omega arith))))))

  -- a line longer than any good one is bad
  pub long_bad : line_of s ≡ None
  unfolding line_of
  long_bad =
      cases (λ (b : Bool).
      cond b (settings_line s)
      (cond (eqb (get_or s 0 0) 68) (reading_line s) (cond (eqb (get_or s 0 0) 77) (ends_at 1 s Mesh) None)) ≡ None)
      (eqb (get_or s 0 0) 80)
      (λ e. long_settings)
      (λ e.
      cases (λ (b : Bool). cond b (reading_line s) (cond (eqb (get_or s 0 0) 77) (ends_at 1 s Mesh) None) ≡ None) (eqb (get_or s 0 0) 68)
      (λ e. long_reading)
      (λ e. cases (λ (b : Bool). cond b (ends_at 1 s Mesh) None ≡ None) (eqb (get_or s 0 0) 77) (λ e. bad_end 1 Mesh (omega arith)) (λ e. refl)))

-- so the first 38 bytes of a line tell what it is
pub cut : (s : List ℕ) → line_of (take 38 s) ≡ line_of s
cut s =
    cases (λ (b : Bool). line_of (take 38 s) ≡ line_of s) (leb (length s) 38)
    (λ e. ap line_of (take_all 38 s (leb-true (length s) 38 e)))
    (λ e.
    let h : 38 < length s = leb-false (length s) 38 e in
    let k : length (take 38 s) ≡ 38 = length-take-le 38 s (omega arith) in
    long_bad (take 38 s) (omega arith) ∙ sym (long_bad s (omega arith)))
