-- Twice a size is a float exactly, and half of one more than its whole part is the size rounded, halves up. Assumes nothing.
use Rattle.std.specs.Prelude.{Err}
use Rattle.std.proofs.Common.{◌≡◌, ℕ, zero, suc, ◌+◌, ◌-◌, ◌*◌, ◌/◌, ◌^◌, ◌<◌, ◌≤◌, min, Bool, true, false, T, ℤ, pos, sym, refl, ap, ◌∙◌, true≢false, lt_trans, le_of_eq, lt_of_lt_of_le, lt_of_le_of_lt, mul-le-mul_right, mul_comm, div-lt_iff_lt-mul, lt_of_mul-lt-mul_right, mul-lt-mul_of_pos_right, mul-pos, pow-suc, le-div_iff_mul-le, mul_right_comm, div-mul-le_self, arith, lit<, lit≤, lt→ltb, pow_pos, ltb-false, ltb-true}
use native.Mathlib.Nat.{eq_of_mul-eq-mul_right, add-div_right, div-div-eq-div-mul, min-eq_left, div-eq_of_lt, lt-div-mul-add}
use lib.Ieee.{Float, nan, inf, fin, binary32, up, down, add, sum, lt, fits, of_bits, to_unsigned}
use lib.Ieee.Fits.{down_pos}
use lib.Ieee.Exact.{HasValue, round_exact}
use lib.Ieee.Nearest.{div_same}
use borrow.Author.Tests.{lt-leb}
use lib.Ieee.Positive.{num, den}
use Rattle.refusals.specs.declared.Refusal.TheVariants.{OutOfRange}
use Rattle.floats.specs.Floats.{zero32, size_of, halves_up, signed, whole_of}
use Rattle.floats.specs.Steps.{too_large_lem, size_up}
use Rattle.floats.proofs.Values.{units_of}
use Rattle.floats.proofs.Signs.{positive_above, zero_above, negative_below}

-- ---- twice a size below 2 ^ 32
in_units : (U M d m P : ℕ) → M * U ≡ m * P * d → (M * d + M * d) * U ≡ m * (P * 2) * (d * d)
in_units U M d m P e = let a : M * U * d ≡ m * P * d * d = ap (λ (z : ℕ). z * d) e in omega arith

few_units : (M d X : ℕ) → 0 < d → M * 2 ^ 149 ≡ X * d → M < 2 ^ 32 * d → X < 2 ^ 181
few_units M d X D e h =
    lt_of_mul-lt-mul_right d
    (lt_of_le_of_lt (le_of_eq (sym e)) (lt_of_lt_of_le (mul-lt-mul_of_pos_right h (pow_pos 149)) (le_of_eq (mul_right_comm (2 ^ 32) d (2 ^ 149)))))

twice_fits : (m p x : ℕ) → m * p < x → m * (p * 2) < x * 2
twice_fits m p x h = omega arith

doubled_value : (m : ℕ) (e : ℤ) → T (fits binary32 (fin false m e)) → m * up e < 2 ^ 32 * down e
    → HasValue (add binary32 (fin false m e) (fin false m e)) false (m * up e * down e + m * up e * down e) (down e * down e)
unfolding add sum
doubled_value m e f h =
    let u = units_of false m e f in
    let j = u.1.0 in
    let d = down e in
    round_exact binary32 false (m * up e * d + m * up e * d) (d * d) m (suc j) (mul-pos (down_pos e) (down_pos e)) u.0
    (lt_trans (lt_of_le_of_lt (le_of_eq (ap (λ (z : ℕ). m * z) (pow-suc 2 j)))
    (twice_fits m (2 ^ j) (2 ^ 181) (few_units (m * up e) d (m * 2 ^ j) (down_pos e) u.1.1 h))) (lit< tt))
    (in_units (2 ^ 149) (m * up e) d m (2 ^ j) u.1.1 ∙ ap (λ (z : ℕ). m * z * (d * d)) (sym (pow-suc 2 j)))

-- ---- what it is cut to
one_denominator : (N G M d : ℕ) → 0 < d → N * (d * d) ≡ (M * d + M * d) * G → N * d ≡ 2 * M * G
one_denominator N G M d D e = eq_of_mul-eq-mul_right d D (N * d) (2 * M * G) (omega arith)

under : (N G M d k : ℕ) → 0 < d → 0 < G → N * d ≡ 2 * M * G → M < k * d → N < 2 * k * G
under N G M d k D P e h = let a : M * G < k * d * G = mul-lt-mul_of_pos_right h P in lt_of_mul-lt-mul_right d (omega arith)

whole_part : (N G M d : ℕ) → 0 < d → 0 < G → N * d ≡ 2 * M * G → N < 2 ^ 64 * G → min (N / G) (2 ^ 64 - 1) ≡ 2 * M / d
whole_part N G M d D P e h =
    let a : N / G < 2 ^ 64 = (div-lt_iff_lt-mul P).1 h in
    min-eq_left {n = N / G} {m = 2 ^ 64 - 1} (omega arith) ∙ div_same N G (2 * M) d P D e

pub record Cut (y : Float) (M d : ℕ) : Type 0 where
  pub above : T (lt (fin true 1 (pos 0)) y)
  pub below : T (lt y (fin false 1 (pos 64)))
  pub is : to_unsigned 64 y ≡ 2 * M / d
  pub few : 2 * M / d < 2 ^ 33

pub cut : (y : Float) (M d : ℕ) → 0 < d → M < 2 ^ 32 * d → HasValue y false (M * d + M * d) (d * d) → Cut y M d
unfolding lt to_unsigned
cut nan M d D h v = elim v [ ]
cut (inf _) M d D h v = elim v [ ]
cut (fin true n g) M d D h v = absurd (true≢false v.0)
cut (fin false n g) M d D h v =
    let N = n * up g in
    let G = down g in
    let e : N * d ≡ 2 * M * G = one_denominator N G M d D v.1 in
    let b : N < 2 ^ 33 * G = under N G M d (2 ^ 32) D (down_pos g) e h in
    let b' : N < 2 ^ 64 * G = lt_of_lt_of_le b (mul-le-mul_right G (lit≤ tt)) in
    record {
      above = lt→ltb 0 (1 * G + N * 1) (omega (arith, down_pos g));
      below = lt→ltb (N * 1) (2 ^ 64 * G) (omega (arith, b'));
      is = whole_part N G M d D (down_pos g) e b';
      few = (div-lt_iff_lt-mul D).1 (omega (arith, h));
    }

pub half_of : (M d : ℕ) → 0 < d → (2 * M / d + 1) / 2 ≡ (2 * M + d) / (2 * d)
half_of M d D = ap (λ (z : ℕ). z / 2) (sym (add-div_right (2 * M) D)) ∙ div-div-eq-div-mul (2 * M + d) d 2 ∙ ap (λ (z : ℕ). (2 * M + d) / z) (mul_comm d 2)

-- ---- of a float
size_fits : (x : Float) → T (fits binary32 x) → T (fits binary32 (size_of x))
unfolding fits
size_fits nan f = f
size_fits (inf s) f = f
size_fits (fin s zero e) f = f
size_fits (fin s (suc m) e) f = f

-- below 2 ^ 32, and from there on
less : (m : ℕ) (e : ℤ) → lt (fin false m e) too_large_lem ≡ true → m * up e < 2 ^ 32 * down e
unfolding lt of_bits
less m e h = let g = ltb-true (m * up e * 1) (2 ^ 32 * down e) h in omega (arith, g)

not_less : (m : ℕ) (e : ℤ) → lt (fin false m e) too_large_lem ≡ false → 2 ^ 32 * down e ≤ m * up e
unfolding lt of_bits
not_less m e h = let g = ltb-false (m * up e * 1) (2 ^ 32 * down e) h in omega (arith, g)

pub cut_of : (x : Float) → T (fits binary32 x) → lt (size_of x) too_large_lem ≡ true → Cut (add binary32 (size_of x) (size_of x)) (num x) (den x)
cut_of nan f h = absurd (true≢false (sym h ∙ unfold lt of_bits in refl))
cut_of (inf s) f h = absurd (true≢false (sym h ∙ unfold lt of_bits in refl))
cut_of (fin s m e) f h =
    let g = less m e h in
    cut (add binary32 (fin false m e) (fin false m e)) (m * up e) (down e) (down_pos e) g (doubled_value m e (size_fits (fin s m e) f) g)

pub up_of : (x : Float) → lt (size_of x) too_large_lem ≡ true → size_up x ≡ (2 * num x + den x) / (2 * den x)
up_of nan h = absurd (true≢false (sym h ∙ unfold lt of_bits in refl))
up_of (inf s) h = absurd (true≢false (sym h ∙ unfold lt of_bits in refl))
up_of (fin s m e) h = refl

-- ---- too large: 2 ^ 32 at least
large : (M d : ℕ) → 0 < d → 2 ^ 32 * d ≤ M → 2 ^ 31 < (2 * M + d) / (2 * d)
large M d D h = lt_of_lt_of_le (lit< tt) ((le-div_iff_mul-le {k = 2 * d} {x = 2 ^ 32} (omega arith)).1 (omega arith))

too_large : (s : Bool) (w : ℕ) → 2 ^ 31 < w → Err OutOfRange ≡ signed s w
too_large true w h = rw (lt-leb w (2 ^ 31) h)
too_large false w h = rw (lt-leb w (2 ^ 31 - 1) (omega arith))

pub outside : (x : Float) → lt (size_of x) too_large_lem ≡ false → Err OutOfRange ≡ whole_of x
unfolding whole_of
outside nan h = refl
outside (inf s) h = refl
outside (fin s m e) h = too_large s (halves_up m e) (large (m * up e) (down e) (down_pos e) (not_less m e h))

-- ---- small enough: the sign is known by the test against zero, but for a zero's, which makes no difference
none : (u d : ℕ) → 0 < d → (2 * (0 * u) + d) / (2 * d) ≡ 0
none u d D = div-eq_of_lt {n = 2 * (0 * u) + d} {m = 2 * d} (omega arith)

pub signed_is : (x : Float) → lt (size_of x) too_large_lem ≡ true → signed (lt x zero32) (size_up x) ≡ whole_of x
unfolding whole_of
signed_is nan h = absurd (true≢false (sym h ∙ unfold lt of_bits in refl))
signed_is (inf s) h = absurd (true≢false (sym h ∙ unfold lt of_bits in refl))
signed_is (fin false m e) h = ap (λ (b : Bool). signed b (halves_up m e)) (positive_above m e)
signed_is (fin true zero e) h =
    ap (λ (b : Bool). signed b (halves_up zero e)) (zero_above e)
    ∙ ap (signed false) (none (up e) (down e) (down_pos e))
    ∙ sym (ap (signed true) (none (up e) (down e) (down_pos e)))
signed_is (fin true (suc m) e) h = ap (λ (b : Bool). signed b (halves_up (suc m) e)) (negative_below m e)

-- ---- what is meant: w - 1/2 ≤ M / d < w + 1/2, so the nearest, and of two as near the larger
pub nearest_whole : (M d : ℕ) → 0 < d → let w = (2 * M + d) / (2 * d) in (w * (2 * d) ≤ 2 * M + d) × (2 * M + d < (w + 1) * (2 * d))
nearest_whole M d D =
    let w = (2 * M + d) / (2 * d) in
    let P : 0 < 2 * d = omega arith in
    let h : 2 * M + d < w * (2 * d) + 2 * d = lt-div-mul-add P in
    (div-mul-le_self (2 * M + d) (2 * d), omega arith)
