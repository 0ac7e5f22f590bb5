-- A sum of two floats that are not below 0 is not below 0: rounding keeps the sign, and -0 + -0 is a zero. Assumes nothing.
use Rattle.std.proofs.Common.{◌≡◌, ℕ, zero, suc, ◌+◌, ◌-◌, ◌*◌, ◌^◌, ◌<◌, Bool, true, false, cond, not, ◌&&◌, ◌||◌, eqb, ltb, ℤ, sym, refl, ◌∙◌, suc-le-suc, zero-le, zero-lt-suc, mul-pos, zero-mul, arith, lit<, le-ltb, lt-ltb, ne_eqb, eqb-true}
use mathlib.Core.Bool.{false≢true, and-true}
use lib.Ieee.{Float, nan, inf, fin, Format, binary32, up, down, low, emax, prec, odd, units, round, sum, add, lt, eq, le, of_bits}
use lib.Ieee.Exact.{HasValue, round_exact}
use lib.Ieee.Fits.{up_pos, down_pos}
use Rattle.floats.specs.Floats.{zero32}
use Rattle.lists.proofs.Bools.{cases}

-- at least 0, of either sign
at_least0 : Float → Bool
at_least0 nan = false
at_least0 (inf s) = not s
at_least0 (fin s m e) = not s || eqb m 0

first_zero : (b : ℕ) → ltb 0 b || (eqb 0 b && true) ≡ true
first_zero zero = refl
first_zero (suc b) = rw (lt-ltb 0 (suc b) (suc-le-suc zero-le))

sized : (m : ℕ) (e : ℤ) → eqb 0 (m * up e * 1) ≡ eqb m 0
sized zero e = rw (zero-mul (up e))
sized (suc m) e =
    let h : 0 < suc m * up e = mul-pos (zero-lt-suc m) (up_pos e) in
    rw (ne_eqb 0 (suc m * up e * 1) (λ q. omega arith), ne_eqb (suc m) 0 (λ q. omega arith))

le_zero : (x : Float) → le zero32 x ≡ at_least0 x
unfolding at_least0 le lt eq of_bits
le_zero nan = refl
le_zero (inf true) = refl
le_zero (inf false) = refl
le_zero (fin false m e) = rw (zero-mul (down e)) (first_zero (m * up e * 1))
le_zero (fin true m e) = rw (zero-mul (down e), sized m e) (and-true (eqb m 0))

-- ---- rounding keeps the sign
odd_at0 : (d q k l : ℕ) → at_least0 (odd d false q k l) ≡ true
unfolding at_least0 odd
odd_at0 d zero k l = refl
odd_at0 d (suc q) k l = refl

units_at0 : (f : Format) (q k : ℕ) → at_least0 (units f false q k) ≡ true
unfolding at_least0 units
units_at0 f q k =
    cases (λ (b : Bool). at_least0 (cond b (odd (suc (prec f)) false q k (low f)) (inf false)) ≡ true) (ltb (q * 2 ^ k) (2 ^ (low f + suc (emax f))))
    (λ e. odd_at0 (suc (prec f)) q k (low f))
    (λ e. refl)

round_at0 : (f : Format) (a c : ℕ) → at_least0 (round f false a c) ≡ true
unfolding round
round_at0 f a c = units_at0 f _ _

-- -0 stays -0
value_at0 : (x : Float) (c : ℕ) → 0 < c → HasValue x true 0 c → at_least0 x ≡ true
unfolding at_least0
value_at0 nan c p v = absurd v
value_at0 (inf t) c p v = absurd v
value_at0 (fin false m e) c p v = refl
value_at0 (fin true zero e) c p v = refl
value_at0 (fin true (suc m) e) c p v =
    let h : 0 < suc m * up e * c = mul-pos (mul-pos (zero-lt-suc m) (up_pos e)) p in
    absurd (omega (arith, v.1, zero-mul (down e)))

round_zero : (c : ℕ) → 0 < c → at_least0 (round binary32 true 0 c) ≡ true
round_zero c p =
    value_at0 (round binary32 true 0 c) c p (round_exact binary32 true 0 c 0 0 p (lit< tt) (lit< tt) (zero-mul (2 ^ low binary32) ∙ sym (zero-mul c)))

-- ---- the sum
neg_zero : (m : ℕ) (e : ℤ) (k : ℕ) → eqb m 0 ≡ true → m * up e * k ≡ 0
neg_zero m e k h = rw (eqb-true m 0 h, zero-mul (up e), zero-mul k)

add_at0 : (w c : Float) → at_least0 w ≡ true → at_least0 c ≡ true → at_least0 (add binary32 w c) ≡ true
unfolding at_least0 add sum
add_at0 nan c p q = absurd (false≢true p)
add_at0 (inf true) c p q = absurd (false≢true p)
add_at0 (inf false) nan p q = absurd (false≢true q)
add_at0 (inf false) (inf true) p q = absurd (false≢true q)
add_at0 (inf false) (inf false) p q = refl
add_at0 (inf false) (fin t n d) p q = refl
add_at0 (fin s m e) nan p q = absurd (false≢true q)
add_at0 (fin s m e) (inf true) p q = absurd (false≢true q)
add_at0 (fin s m e) (inf false) p q = refl
add_at0 (fin false m e) (fin false n d) p q = round_at0 binary32 (m * up e * down d + n * up d * down e) (down e * down d)
add_at0 (fin false m e) (fin true n d) p q =
    rw (neg_zero n d (down e) q, le-ltb (m * up e * down d) 0 zero-le) (round_at0 binary32 (m * up e * down d - 0) (down e * down d))
add_at0 (fin true m e) (fin false n d) p q =
    rw (neg_zero m e (down d) p, le-ltb (n * up d * down e) 0 zero-le)
    (cases (λ (b : Bool).
    at_least0 (cond b (round binary32 false (n * up d * down e - 0) (down e * down d))
    (round binary32 false (0 - n * up d * down e) (down e * down d))) ≡ true) (ltb 0 (n * up d * down e))
    (λ h. round_at0 binary32 (n * up d * down e - 0) (down e * down d))
    (λ h. round_at0 binary32 (0 - n * up d * down e) (down e * down d)))
add_at0 (fin true m e) (fin true n d) p q =
    rw (neg_zero m e (down d) p, neg_zero n d (down e) q) (round_zero (down e * down d) (mul-pos (down_pos e) (down_pos d)))

pub sum_at_least_0 : (x y : Float) → le zero32 x ≡ true → le zero32 y ≡ true → le zero32 (add binary32 x y) ≡ true
sum_at_least_0 x y p q = le_zero (add binary32 x y) ∙ add_at0 x y (sym (le_zero x) ∙ p) (sym (le_zero y) ∙ q)
