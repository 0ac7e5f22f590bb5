-- What the tests against zero say of a value. Assumes nothing.
use Rattle.std.proofs.Common.{◌≡◌, ℕ, zero, suc, ◌+◌, ◌*◌, ◌<◌, ◌≤◌, Bool, true, false, ◌&&◌, T, ℤ, sym, refl, ap, ◌∙◌, subst, true≢false, zero-le, le_of_eq, lt_of_lt_of_le, le-add_right, zero-lt-suc, mul-pos, ne_of_gt, zero-mul, not-le_of_lt, lit<, lit≤, le-ltb, lt-ltb, eq-eqb, ne_eqb}
use mathlib.Core.Bool.{beq, or-true}
use lib.Ieee.{Float, nan, inf, fin, binary32, up, down, lt, eq, ne, neg, fits, is_nan, of_bits, to_bits}
use lib.Ieee.Fits.{up_pos}
use lib.Ieee.Compare.{differs_from_itself, nan_differs}
use Rattle.floats.specs.Floats.{zero32, size_of, sign_of, one32, is_finite}
use Rattle.floats.proofs.Values.{zero_exponent, finite_below, negative_above}

pub above_zero : (m : ℕ) (e : ℤ) → 0 < suc m * up e * 1
above_zero m e = mul-pos (mul-pos (zero-lt-suc m) (up_pos e)) (zero-lt-suc 0)

-- ---- nothing but a zero equals zero
pub no_zero : (s : Bool) (m : ℕ) (e : ℤ) → eq (fin s (suc m) e) zero32 ≡ false
unfolding eq of_bits
no_zero s m e = rw (ne_eqb (suc m * up e * 1) (0 * down e) (λ (q : suc m * up e * 1 ≡ 0 * down e). ne_of_gt (above_zero m e) (q ∙ zero-mul (down e))))

pub zero_eq : (s : Bool) (e : ℤ) → eq (fin s zero e) zero32 ≡ true
unfolding eq of_bits
zero_eq s e =
    let z : zero * up e * 1 ≡ 0 = ap (λ (x : ℕ). x * 1) (zero-mul (up e)) in
    rw (eq-eqb (zero * up e * 1) (0 * down e) (z ∙ sym (zero-mul (down e))), eq-eqb (zero * up e * 1) 0 z) (or-true (beq s false))

-- ---- |x|
pub size_zero : (x : Float) → T (fits binary32 x) → eq x zero32 ≡ true → zero32 ≡ size_of x
unfolding eq of_bits
size_zero nan f h = absurd (true≢false (sym h))
size_zero (inf s) f h = absurd (true≢false (sym h))
size_zero (fin s zero e) f h = ap (λ (z : ℤ). fin false zero z) (sym (zero_exponent s e f))
size_zero (fin s (suc m) e) f h = absurd (true≢false (sym h ∙ no_zero s m e))

pub positive_above : (m : ℕ) (e : ℤ) → lt (fin false m e) zero32 ≡ false
unfolding lt of_bits
positive_above m e = le-ltb (m * up e * 1) (0 * down e) (rw (zero-mul (down e)) zero-le)

pub zero_above : (e : ℤ) → lt (fin true zero e) zero32 ≡ false
unfolding lt of_bits
zero_above e = le-ltb 0 (0 * up e * 1 + 0 * down e) (le_of_eq (rw (zero-mul (up e), zero-mul (down e))))

pub negative_below : (m : ℕ) (e : ℤ) → lt (fin true (suc m) e) zero32 ≡ true
unfolding lt of_bits
negative_below m e = lt-ltb 0 (suc m * up e * 1 + 0 * down e) (lt_of_lt_of_le (above_zero m e) (le-add_right _ _))

pub size_below : (x : Float) → lt x zero32 ≡ true → neg x ≡ size_of x
unfolding lt neg of_bits
size_below nan h = refl
size_below (inf true) h = refl
size_below (inf false) h = absurd (true≢false (sym h))
size_below (fin true m e) h = refl
size_below (fin false m e) h = absurd (true≢false (sym h ∙ positive_above m e))

pub size_else : (x : Float) → eq x zero32 ≡ false → lt x zero32 ≡ false → x ≡ size_of x
unfolding lt of_bits
size_else nan z h = refl
size_else (inf true) z h = absurd (true≢false h)
size_else (inf false) z h = refl
size_else (fin false m e) z h = refl
size_else (fin true zero e) z h = absurd (true≢false (sym (zero_eq true e) ∙ z))
size_else (fin true (suc m) e) z h = absurd (true≢false (sym (negative_below m e) ∙ h))

-- ---- the sign bit
pub sign_nan : (x : Float) → ne x x ≡ true → x ≡ sign_of x
sign_nan x h = let e = differs_from_itself x (subst T (sym h) tt) in e ∙ ap sign_of (sym e)

pub number : (x : Float) → ne x x ≡ false → is_nan x ≡ false
unfolding is_nan
number nan h = absurd (true≢false (sym nan_differs ∙ h))
number (inf s) h = refl
number (fin s m e) h = refl

infinity_bits : to_bits binary32 (inf false) < 0x8000_0000
unfolding to_bits
infinity_bits = lit< tt

pub sign_clear : (x : Float) → T (fits binary32 x) → is_nan x ≡ false → to_bits binary32 x < 0x8000_0000 → one32 ≡ sign_of x
unfolding is_nan
sign_clear nan f n h = absurd (true≢false n)
sign_clear (inf true) f n h = absurd (not-le_of_lt h (unfold to_bits in lit≤ tt))
sign_clear (inf false) f n h = refl
sign_clear (fin true m e) f n h = absurd (not-le_of_lt h (negative_above m e))
sign_clear (fin false m e) f n h = refl

pub sign_set : (x : Float) → T (fits binary32 x) → is_nan x ≡ false → 0x8000_0000 ≤ to_bits binary32 x → neg one32 ≡ sign_of x
unfolding is_nan
sign_set nan f n h = absurd (true≢false n)
sign_set (inf true) f n h = refl
sign_set (inf false) f n h = absurd (not-le_of_lt infinity_bits h)
sign_set (fin true m e) f n h = refl
sign_set (fin false m e) f n h = absurd (not-le_of_lt (lt_of_lt_of_le (finite_below m e f) (lit≤ tt)) h)

-- ---- finite: between the infinities
pub finite_is : (x : Float) → is_finite x ≡ (lt (inf true) x && lt x (inf false))
unfolding lt of_bits
finite_is nan = refl
finite_is (inf true) = refl
finite_is (inf false) = refl
finite_is (fin s m e) = refl
