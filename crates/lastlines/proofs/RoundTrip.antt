-- What is printed reads back: a word's hex digits, and so the bits of a vertex; a number's decimal digits.
-- Assumes nothing.
use Rattle.std.specs.Prelude.{Some, Option, unwrap_or}
use Rattle.std.proofs.lemmas.Bool.Decides.{nat_tests}
use Prim.Native.Nat.{ℕ, zero, suc, ◌+◌, ◌*◌, ◌/◌, ◌%◌, ◌^◌, ◌<◌, ◌≤◌}
use native.Mathlib.Nat.{add-zero, mod-one, mod-lt, mod-eq_of_lt, div-add-mod', add-mul-mod_self_left, mul-le-mul_right, pow-suc, one-le-pow}
use native.Mathlib.Omega.{arith}
use mathlib.Core.Path.{◌≡◌, refl, sym, ap, ◌∙◌}
use mathlib.Core.Bool.{Bool, cond}
use mathlib.Core.List.{List, [], ◌∷◌, ◌++◌}
use lib.ListN.{length, get_or, take, drop}
use lib.Seq.{get_or-drop, drop-drop}
use lib.Dec.{T, ltb, lit<}
use lib.Ieee.{Float, fits, to_bits, binary32}
use lib.Ieee.Bits.{to_bits-lt}
use borrow.Author.Tests.{ltb-true, eq-eqb}
use Rattle.lists.proofs.Bools.{cases}
use Rattle.lines.specs.declared.Line.{Line}
use Rattle.lines.specs.declared.Line.TheVariants.{Settings}
use Rattle.lines.specs.Lines.{digit_of, hex_from, word_at, with_word, ends_at, settings_line, line_of}
use Rattle.texts.specs.Texts.{glyph, hex_digits, hex_field, decimal_from, decimal, vertex_line}

-- a digit reads back
digit_back : (d : ℕ) → d < 16 → digit_of 16 (glyph d) ≡ Some d
unfolding digit_of
digit_back d h = grind (arith, nat_tests)

digit_most : (d : ℕ) → d < 16 → d ≤ 15
digit_most d h = omega arith

-- what is left of w by 16 p: the digit above p, and what is left by p
left_by : (p : ℕ) → 1 ≤ p → (w : ℕ) → w % (p * 16) ≡ w / p % 16 * p + w % p
left_by p h w =
    let small : w % p < p = mod-lt w (omega arith) in
    let digit : w / p % 16 < 16 = mod-lt (w / p) (lit< tt) in
    let parts : (w / p / 16 * 16 + w / p % 16) * p + w % p ≡ (w / p % 16 * p + w % p) + p * 16 * (w / p / 16) = omega arith in
    let whole : w ≡ (w / p % 16 * p + w % p) + p * 16 * (w / p / 16) =
    sym (div-add-mod' w p) ∙ ap (λ (n : ℕ). n * p + w % p) (sym (div-add-mod' (w / p) 16)) ∙ parts in
    let below-it : w / p % 16 * p + w % p < p * 16 = omega (arith, mul-le-mul_right p (digit_most (w / p % 16) digit)) in
    ap (λ (n : ℕ). n % (p * 16)) whole ∙ add-mul-mod_self_left (w / p % 16 * p + w % p) (p * 16) (w / p / 16) ∙ mod-eq_of_lt below-it

split_by : (p : ℕ) → 1 ≤ p → (w v : ℕ) {r : ℕ} → r ≡ p * 16 → (v * 16 + w / p % 16) * p + w % p ≡ v * r + w % r
split_by p h w v e = rw e (omega (arith, left_by p h w))

-- the last k + 1 digits are one digit and the last k
split : (w v k : ℕ) → (v * 16 + w / 16 ^ k % 16) * 16 ^ k + w % 16 ^ k ≡ v * 16 ^ suc k + w % 16 ^ suc k
split w v k = split_by (16 ^ k) (one-le-pow k 16 (lit< tt)) w v (pow-suc 16 k)

-- k digits of w after others of value v: the line goes on with their value
hex_back :
    (k : ℕ) (s : List ℕ) (at v w : ℕ) (rest : List ℕ)
    → drop at s ≡ hex_digits k w ++ rest
    → (f : ℕ → Option Line)
    → with_word (hex_from k s at v) f ≡ f (v * 16 ^ k + w % 16 ^ k)
unfolding hex_from hex_digits
hex_back zero s at v w rest e f = let same : v ≡ v * 16 ^ 0 + w % 16 ^ 0 = omega (arith, mod-one w) in ap f same
hex_back (suc k) s at v w rest e f =
    let g : get_or s at 0 ≡ glyph (w / 16 ^ k % 16) = ap (λ n. get_or s n 0) (sym (add-zero at)) ∙ sym (get_or-drop at s 0 0) ∙ ap (λ l. get_or l 0 0) e in
    let small : w / 16 ^ k % 16 < 16 = mod-lt (w / 16 ^ k) (lit< tt) in
    let d : digit_of 16 (get_or s at 0) ≡ Some (w / 16 ^ k % 16) = ap (digit_of 16) g ∙ digit_back (w / 16 ^ k % 16) small in
    let n : suc at ≡ at + 1 = omega arith in
    let t : drop (suc at) s ≡ hex_digits k w ++ rest = ap (λ m. drop m s) n ∙ sym (drop-drop 1 at s) ∙ ap (drop 1) e in
    rw d (hex_back k s (suc at) (v * 16 + w / 16 ^ k % 16) w rest t f ∙ ap f (split w v k))

-- a word of 32 bits reads back where its field stands
word_back : (s : List ℕ) (at w : ℕ) (rest : List ℕ) → w < 2 ^ 32 → drop at s ≡ hex_field w ++ rest → (f : ℕ → Option Line) → with_word (word_at s at) f ≡ f w
unfolding word_at hex_field
word_back s at w rest h e f =
    let space : get_or s at 0 ≡ 32 = ap (λ n. get_or s n 0) (sym (add-zero at)) ∙ sym (get_or-drop at s 0 0) ∙ ap (λ l. get_or l 0 0) e in
    let same : 0 * 16 ^ 8 + w % 16 ^ 8 ≡ w = omega (arith, mod-eq_of_lt {n = w} {m = 2 ^ 32} h) in
    let t : drop (at + 1) s ≡ hex_digits 8 w ++ rest = sym (drop-drop 1 at s) ∙ ap (drop 1) e in
    rw space (hex_back 8 s (at + 1) 0 w rest t f ∙ ap f same)

-- three fields after `P` are settings
settings_back :
    (s : List ℕ) (a b c : ℕ) (p q r : List ℕ) → a < 2 ^ 32 → b < 2 ^ 32 → c < 2 ^ 32 → get_or s 0 0 ≡ 80 → length s ≡ 28 →
    drop 1 s ≡ hex_field a ++ p → drop 10 s ≡ hex_field b ++ q → drop 19 s ≡ hex_field c ++ r → line_of s ≡ Some (Settings a b c)
unfolding line_of settings_line
settings_back s a b c p q r ha hb hc first long ea eb ec =
    let ends : ends_at 28 s (Settings a b c) ≡ Some (Settings a b c) = rw (eq-eqb (length s) 28 long) in
    let third : with_word (word_at s 19) (λ z. ends_at 28 s (Settings a b z)) ≡ Some (Settings a b c) =
    word_back s 19 c r hc ec (λ z. ends_at 28 s (Settings a b z)) ∙ ends in
    let second : with_word (word_at s 10) (λ w. with_word (word_at s 19) (λ z. ends_at 28 s (Settings a w z))) ≡ Some (Settings a b c) =
    word_back s 10 b q hb eb (λ w. with_word (word_at s 19) (λ z. ends_at 28 s (Settings a w z))) ∙ third in
    rw first (word_back s 1 a p ha ea (λ t. with_word (word_at s 10) (λ w. with_word (word_at s 19) (λ z. ends_at 28 s (Settings t w z)))) ∙ second)

-- a float of 32 bits has bits of 32 bits
bits_fit : (x : Float) → T (fits binary32 x) → to_bits binary32 x < 2 ^ 32
bits_fit x h = to_bits-lt binary32 x h

-- what is printed for a vertex reads back as the same bits: with `P` for `v` and without its newline the line is read as those three words
pub vertex_back :
    (x y z : Float) → T (fits binary32 x) → T (fits binary32 y) → T (fits binary32 z) →
    line_of (80 ∷ take 27 (drop 1 (vertex_line x y z))) ≡ Some (Settings (to_bits binary32 x) (to_bits binary32 y) (to_bits binary32 z))
unfolding vertex_line hex_field hex_digits
vertex_back x y z hx hy hz =
    settings_back (80 ∷ take 27 (drop 1 (vertex_line x y z))) (to_bits binary32 x) (to_bits binary32 y) (to_bits binary32 z)
    _ _ _ (bits_fit x hx) (bits_fit y hy) (bits_fit z hz) refl refl refl refl refl

-- the value of a decimal digit, 10 for any other byte
abbrev pub digit_value : ℕ → ℕ
digit_value b = unwrap_or (digit_of 10 b) 10

-- the value of decimal digits after others of value v
unfoldable pub value_of : ℕ → List ℕ → ℕ
value_of v [] = v
value_of v (b ∷ bs) = value_of (v * 10 + digit_value b) bs

decimal_digit : (d : ℕ) → d < 10 → digit_value (48 + d) ≡ d
unfolding digit_of
decimal_digit d h = grind (arith, nat_tests)

digits_back : (k n : ℕ) (text : List ℕ) → n < 10 ^ k → value_of 0 (decimal_from k n text) ≡ value_of n text
unfolding decimal_from value_of
digits_back zero n text h = let e : n ≡ 0 = omega arith in rw e
digits_back (suc k) n text h =
    cases (λ (b : Bool). value_of 0 (cond b ((48 + n) ∷ text) (decimal_from k (n / 10) ((48 + n % 10) ∷ text))) ≡ value_of n text) (ltb n 10)
    (λ e. let same : 0 * 10 + digit_value (48 + n) ≡ n = omega (arith, decimal_digit n (ltb-true n 10 e)) in ap (λ (v : ℕ). value_of v text) same)
    (λ e.
    let same : n / 10 * 10 + digit_value (48 + n % 10) ≡ n = omega (arith, decimal_digit (n % 10) (mod-lt n (lit< tt)), div-add-mod' n 10) in
    digits_back k (n / 10) ((48 + n % 10) ∷ text) (omega (arith, pow-suc 10 k)) ∙ ap (λ (v : ℕ). value_of v text) same)

-- a number of 64 bits reads back
pub decimal_back : (n : ℕ) → n < 10 ^ 20 → value_of 0 (decimal n) ≡ n
unfolding value_of
decimal_back n h = digits_back 20 n [] h
