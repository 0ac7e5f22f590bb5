-- Laws of texts written one after the other, and of their digits.
-- Assumes nothing.
use Prim.Native.Nat.{ℕ, zero, suc, ◌+◌, ◌-◌, ◌/◌, ◌%◌, ◌^◌, ◌<◌, ◌≤◌}
use native.Mathlib.Nat.{zero-add, pow-suc, pow-le-pow_right}
use native.Mathlib.Numerals.{add-one}
use native.Mathlib.Omega.{arith}
use mathlib.Core.Path.{◌≡◌, refl, sym, ap, ◌∙◌}
use mathlib.Core.Bool.{true, false≢true}
use mathlib.Core.List.{List, [], ◌∷◌, ◌++◌}
use lib.ListN.{length, get_or, set, take, drop, length-append, length-set, length-drop}
use lib.Seq.{sets, set_out, length-sets, length-take-le, take-suc, take_all, drop-cons, drop-set-lt, get_or-set_same}
use lib.Dec.{lit<}
use lib.Ieee.{Float, nan, inf, fin, is_nan, to_bits, binary32}
use borrow.Author.Tests.{lt-ltb, le-ltb}
use Rattle.lists.proofs.Writing.{sets_append}
use Rattle.texts.specs.Texts.{glyph, hex_digits, hex_field, decimal_from}
use Rattle.texts.specs.Steps.{Wrote}

-- what is written past the end is nothing
pub sets_out : (l : List ℕ) (at : ℕ) (xs : List ℕ) → length l ≤ at → sets l at xs ≡ l
sets_out l at [] h = refl
sets_out l at (x ∷ xs) h = rw (set_out l at x h) (sets_out l (suc at) xs (omega arith))

-- a byte written, inside the list or past its end
pub put_in : (l : List ℕ) (at b : ℕ) → Wrote l at (b ∷ []) (set l at b) (at + 1)
put_in l at b = record { list = refl; ends = refl }

pub put_out : (l : List ℕ) (at b : ℕ) → length l ≤ at → Wrote l at (b ∷ []) l (at + 1)
put_out l at b h = record { list = sym (set_out l at b h); ends = refl }

pub put_as : {l m : List ℕ} {at p b c : ℕ} → Wrote l at (b ∷ []) m p → b ≡ c → Wrote l at (c ∷ []) m p
put_as w e = rw e at w

pub word_as : {l m : List ℕ} {at p b c : ℕ} → Wrote l at (hex_field b) m p → b ≡ c → Wrote l at (hex_field c) m p
word_as w e = rw e at w

-- a text and then another
pub more : {l m n : List ℕ} {at p q : ℕ} {xs ys : List ℕ} → Wrote l at xs m p → Wrote m p ys n q → Wrote l at (xs ++ ys) n q
more {l} {m} {n} {at} {p} {q} {xs} {ys} v w =
    record {
      list = rw (sets_append l at xs ys, ← v.list, ← v.ends) w.list;
      ends = rw (length-append xs ys) (omega (arith, v.ends, w.ends));
    }

pub wrote_length : {l m : List ℕ} {at p : ℕ} {xs : List ℕ} → Wrote l at xs m p → length m ≡ length l
wrote_length {l} {m} {at} {p} {xs} w = rw w.list (length-sets l at xs)

-- a line written from the front
pub whole : {l m : List ℕ} {p : ℕ} {xs : List ℕ} → Wrote l 0 xs m p → (p ≡ length xs) × (m ≡ sets l 0 xs)
whole {l} {m} {p} {xs} w = (w.ends ∙ zero-add (length xs), w.list)

-- one byte more of a text
pub text_more :
    (l text : List ℕ) (at i : ℕ) {m n : List ℕ} {p : ℕ} → i < length text → m ≡ sets l at (take i text) →
    Wrote m (at + i) (get_or text i 0 ∷ []) n p → n ≡ sets l at (take (i + 1) text)
text_more l text at i h e w =
    let long : length (take i text) ≡ i = length-take-le i text (omega arith) in
    rw (add-one i, take-suc text i 0 h, sets_append l at (take i text) (get_or text i 0 ∷ []), long, ← e) w.list

-- one byte written, and what is left from where it goes on
pub goes_on : {l m : List ℕ} {at p b : ℕ} (rest : List ℕ) → Wrote l at (b ∷ []) m p → sets m p rest ≡ sets l at (b ∷ rest)
goes_on {l} {m} {at} {p} {b} rest w =
    let next : p ≡ suc at = omega (arith, w.ends) in
    rw (w.list, next)

-- one hex digit more
pub digit_written :
    (k w : ℕ) {l m : List ℕ} {at p : ℕ} → Wrote l at (glyph (w / 16 ^ k % 16) ∷ []) m p → sets m p (hex_digits k w) ≡ sets l at (hex_digits (suc k) w)
unfolding hex_digits
digit_written k w d = goes_on (hex_digits k w) d

-- a place of eight digits has a weight of 32 bits
pub weight_fits : (k : ℕ) → k < 8 → 16 ^ k < 2 ^ 32
weight_fits k h = omega (arith, pow-le-pow_right {n = 16} (lit< tt) {i = k} {j = 7} (omega arith))

-- a NaN's pattern
pub nan_bits : (x : Float) → is_nan x ≡ true → to_bits binary32 x ≡ 0x7fc0_0000
unfolding to_bits is_nan
nan_bits nan h = refl
nan_bits (inf s) h = absurd (false≢true h)
nan_bits (fin s m e) h = absurd (false≢true h)

-- twenty digits from the last on: a digit more, or the first
module _ (number : ℕ) (ds : List ℕ) (start rest : ℕ) (inside : start < length ds)
    (held : decimal_from 20 number [] ≡ decimal_from (suc start) rest (drop (suc start) ds)) where
  digit_put : (d : ℕ) → drop start (set ds start d) ≡ d ∷ drop (suc start) ds
  digit_put d =
      let long : start < length (set ds start d) = rw length-set inside in
      rw (drop-cons (set ds start d) start 0 long, get_or-set_same ds start d 0 inside, drop-set-lt (suc start) ds start d (omega arith))

  pub digit_more : 10 ≤ rest → decimal_from 20 number [] ≡ decimal_from start (rest / 10) (drop start (set ds start (48 + rest % 10)))
  unfolding decimal_from
  digit_more h = rw (digit_put (48 + rest % 10)) (held ∙ rw (le-ltb rest 10 h))

  pub digit_first : rest < 10 → drop start (set ds start (48 + rest)) ≡ decimal_from 20 number []
  unfolding decimal_from
  digit_first h = rw (digit_put (48 + rest)) (sym (held ∙ rw (lt-ltb rest 10 h)))

two_absurd : (rest : ℕ) → 10 ≤ rest → rest < 10 ^ 1 → ⊥
two_absurd rest h k = omega arith

-- a number of two digits or more leaves a place in front
pub two_digits : (start rest : ℕ) → 10 ≤ rest → rest < 10 ^ suc start → 1 ≤ start
two_digits zero rest h k = omega arith
two_digits (suc start) rest h k = omega arith

pub one_less : (start rest : ℕ) → rest < 10 ^ suc start → rest / 10 < 10 ^ start
one_less start rest k = omega (arith, pow-suc 10 start)

-- a turn of the loop that puts digits
pub digit_again :
    (number : ℕ) (ds : List ℕ) (start rest : ℕ)
    → 10 ≤ rest
    → (start < 20)
    × (rest < 10 ^ suc start)
    × (length ds ≡ 20)
    × (decimal_from 20 number [] ≡ decimal_from (suc start) rest (drop (suc start) ds))
    →
    (start - 1 < 20) × (rest / 10 < 10 ^ suc (start - 1)) × (length (set ds start (48 + rest % 10)) ≡ 20)
    × (decimal_from 20 number [] ≡ decimal_from (suc (start - 1)) (rest / 10) (drop (suc (start - 1)) (set ds start (48 + rest % 10))))
digit_again number ds zero rest h i = absurd (two_absurd rest h i.1)
digit_again number ds (suc s) rest h i =
    let e : suc s - 1 ≡ s = omega arith in
    rw e (omega (arith, i.0), one_less (suc s) rest i.1, rw length-set i.2, digit_more number ds (suc s) rest (rw i.2 i.0) i.3 h)

-- the digits put in, written from a place on
pub digits_wrote :
    (number : ℕ) (ds : List ℕ) (start rest : ℕ) {l m : List ℕ} {at p : ℕ}
    → rest < 10
    → (start < 20)
    × (rest < 10 ^ suc start)
    × (length ds ≡ 20)
    × (decimal_from 20 number [] ≡ decimal_from (suc start) rest (drop (suc start) ds))
    →
    Wrote l at (take (20 - start) (drop start (set ds start (48 + rest)))) m p → Wrote l at (decimal_from 20 number []) m p × (p ≤ at + 20)
digits_wrote number ds start rest {l} {m} {at} {p} h i w =
    let d : drop start (set ds start (48 + rest)) ≡ decimal_from 20 number [] = digit_first number ds start rest (rw i.2 i.0) i.3 h in
    let n : length (drop start (set ds start (48 + rest))) ≡ 20 - start = simp (length-drop, length-set) (rw i.2) in
    let e : take (20 - start) (drop start (set ds start (48 + rest))) ≡ decimal_from 20 number [] =
    take_all (20 - start) (drop start (set ds start (48 + rest))) (omega arith) ∙ d in
    (rw e at w, omega (arith, w.ends, ap length e, ap length d))
