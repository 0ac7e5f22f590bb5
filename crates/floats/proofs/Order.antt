-- What the tests say of any two floats that are no NaN, whatever their format: `le x y` is `not (lt y x)`, so a value
-- is beyond a limit or within it. Assumes nothing.
use Rattle.std.proofs.Common.{◌≡◌, ℕ, zero, suc, ◌+◌, ◌-◌, ◌*◌, ◌^◌, ◌<◌, ◌≤◌, Bool, true, false, not, ◌&&◌, ◌||◌, T, eqb, ltb, ◌⊎◌, ℤ, pos, negsuc, sym, refl, ap, ◌∙◌, inl, inr, true≢false, zero-le, le_trans, le_of_eq, lt_of_lt_of_le, lt_of_le_of_lt, le_of_lt, mul-le-mul_right, mul_assoc, mul-le-mul, add_comm, lt_of_mul-lt-mul_right, eq-or-lt_of_le, zero-mul, mul-one, le-mul_of_pos_right, arith, lit≤, pow_pos, pow_mono, pow-add, ltb-false, le-ltb, lt-ltb, eq-eqb, ne_eqb}
use mathlib.Core.Bool.{false≢true, and-false, or-false, or-true}
use lib.Ieee.{Float, nan, inf, fin, binary32, up, down, neg, lt, le, eq, below, level, is_nan, fits, of_bits}
use borrow.Author.Tests.{not-true}
use Rattle.floats.specs.Floats.{zero32, largest, size_of, is_finite, between, within, beyond, positive_to}
use Rattle.lists.proofs.Bools.{and_first, and_second}
use Rattle.floats.proofs.Values.{le_or_lt, fitting}

-- ---- signed sizes: ±a at most ±b is ±b not below ±a
at_most : (a b : ℕ) (t : Bool) → (a ≡ b → t ≡ true) → (b < a → t ≡ false) → (ltb a b || (t && true)) ≡ not (ltb b a)
at_most a b t f g = elim (le_or_lt a b) [ inl h ↦ few h (eq-or-lt_of_le h) | inr h ↦ rw (le-ltb a b (le_of_lt h), g h, lt-ltb b a h) ]
  where
    few : a ≤ b → (a ≡ b) ⊎ (a < b) → (ltb a b || (t && true)) ≡ not (ltb b a)
    few h (inl e) = rw (f e, le-ltb b a h) (or-true (ltb a b))
    few h (inr l) = rw (lt-ltb a b l, le-ltb b a h)

-- a number at most minus another: both are 0
none : (a b : ℕ) → (eqb a b && eqb a 0) ≡ not (ltb 0 (b + a))
none a b = elim (le_or_lt (b + a) 0) [ inl h ↦ rw (eq-eqb a b (omega arith), eq-eqb a 0 (omega arith), le-ltb 0 (b + a) h) | inr h ↦ some h (le_or_lt a 0) ]
  where
    some : 0 < b + a → (a ≤ 0) ⊎ (0 < a) → (eqb a b && eqb a 0) ≡ not (ltb 0 (b + a))
    some h (inl l) = rw (ne_eqb a b (λ (e : a ≡ b). omega arith), lt-ltb 0 (b + a) h)
    some h (inr l) = rw (ne_eqb a 0 (λ (e : a ≡ 0). omega arith), lt-ltb 0 (b + a) h) (and-false (eqb a b))

all : (a b : ℕ) → (ltb 0 (a + b) || (eqb a b && eqb a 0)) ≡ true
all a b = rw (none a b) (yes_or_no a b (le_or_lt (a + b) 0))
  where
    yes_or_no : (x y : ℕ) → (x + y ≤ 0) ⊎ (0 < x + y) → (ltb 0 (x + y) || not (ltb 0 (y + x))) ≡ true
    yes_or_no x y (inl h) = rw (le-ltb 0 (y + x) (omega arith)) (or-true (ltb 0 (x + y)))
    yes_or_no x y (inr h) = rw (lt-ltb 0 (x + y) h)

turned : (s t : Bool) (a b : ℕ) → (below s a t b || level s a t b) ≡ not (below t b s a)
turned false false a b = at_most a b (eqb a b) (eq-eqb a b) (λ (h : b < a). ne_eqb a b (λ (e : a ≡ b). omega arith))
turned true true a b = at_most b a (eqb a b) (λ (e : b ≡ a). eq-eqb a b (sym e)) (λ (h : a < b). ne_eqb a b (λ (e : a ≡ b). omega arith))
turned false true a b = none a b
turned true false a b = all a b

-- ---- a comparison that holds is of two numbers
pub le_first : (x y : Float) → le x y ≡ true → is_nan x ≡ false
unfolding le lt eq is_nan
le_first nan y e = absurd (false≢true e)
le_first (inf s) y e = refl
le_first (fin s m e) y h = refl

pub le_second : (x y : Float) → le x y ≡ true → is_nan y ≡ false
unfolding le lt eq is_nan
le_second x (inf t) e = refl
le_second x (fin t n d) e = refl
le_second nan nan e = absurd (false≢true e)
le_second (inf s) nan e = absurd (false≢true e)
le_second (fin s m d) nan e = absurd (false≢true e)

pub lt_le : (x y : Float) → lt x y ≡ true → le x y ≡ true
unfolding le
lt_le x y h = rw h

-- ---- at most is not above
pub le_not_lt : (x y : Float) → is_nan x ≡ false → is_nan y ≡ false → le x y ≡ not (lt y x)
unfolding le lt eq is_nan
le_not_lt nan y p q = absurd (true≢false p)
le_not_lt (inf s) nan p q = absurd (true≢false q)
le_not_lt (inf false) (inf false) p q = refl
le_not_lt (inf false) (inf true) p q = refl
le_not_lt (inf true) (inf false) p q = refl
le_not_lt (inf true) (inf true) p q = refl
le_not_lt (inf false) (fin t n d) p q = refl
le_not_lt (inf true) (fin t n d) p q = refl
le_not_lt (fin s m e) nan p q = absurd (true≢false q)
le_not_lt (fin s m e) (inf false) p q = refl
le_not_lt (fin s m e) (inf true) p q = refl
le_not_lt (fin s m e) (fin t n d) p q = turned s t (m * up e * down d) (n * up d * down e)

pub not_lt_of_le : (x y : Float) → le x y ≡ true → lt y x ≡ false
not_lt_of_le x y h = not-true (lt y x) (sym (le_not_lt x y (le_first x y h) (le_second x y h)) ∙ h)

pub le_of_not_lt : (x y : Float) → is_nan x ≡ false → is_nan y ≡ false → lt y x ≡ false → le x y ≡ true
le_of_not_lt x y p q h = le_not_lt x y p q ∙ ap not h

-- a number is not below itself
lt_self : (x : Float) → lt x x ≡ false
unfolding lt
lt_self nan = refl
lt_self (inf true) = refl
lt_self (inf false) = refl
lt_self (fin false m e) = le-ltb (m * up e * down e) (m * up e * down e) (le_of_eq refl)
lt_self (fin true m e) = le-ltb (m * up e * down e) (m * up e * down e) (le_of_eq refl)

pub le_self : (x : Float) → is_nan x ≡ false → le x x ≡ true
le_self x p = le_of_not_lt x x p p (lt_self x)

-- ---- sizes
pub neg_size : (x : Float) → size_of (neg x) ≡ size_of x
unfolding neg
neg_size nan = refl
neg_size (inf s) = refl
neg_size (fin s m e) = refl

neg_nan : (x : Float) → is_nan (neg x) ≡ is_nan x
unfolding neg is_nan
neg_nan nan = refl
neg_nan (inf s) = refl
neg_nan (fin s m e) = refl

size_nan : (x : Float) → is_nan (size_of x) ≡ is_nan x
unfolding is_nan
size_nan nan = refl
size_nan (inf s) = refl
size_nan (fin s m e) = refl

-- below a number: then that is above 0
some_above : (a b : ℕ) → (ltb 0 (b + a) || ltb a b) ≡ ltb 0 (b + a)
some_above a b = elim (le_or_lt (b + a) 0) [ inl h ↦ rw (le-ltb 0 (b + a) h, le-ltb a b (omega arith)) | inr h ↦ rw (lt-ltb 0 (b + a) h) ]

beyond_sizes : (s t : Bool) (a b : ℕ) → (below t b s a || below s a (not t) b) ≡ below t b false a
beyond_sizes false false a b = or-false (ltb b a)
beyond_sizes false true a b = some_above a b
beyond_sizes true false a b = refl
beyond_sizes true true a b = swapped (ltb a b) (ltb 0 (a + b)) (ltb 0 (b + a)) (ap (ltb 0) (add_comm a b)) (some_above a b)
  where
    swapped : (u v w : Bool) → v ≡ w → (w || u) ≡ w → (u || v) ≡ w
    swapped true true w e h = e
    swapped true false true e h = refl
    swapped true false false e h = h
    swapped false v w e h = e

-- beyond a limit: larger than it in size
pub beyond_size : (most x : Float) → beyond most x ≡ lt most (size_of x)
unfolding lt neg
beyond_size nan nan = refl
beyond_size nan (inf s) = refl
beyond_size nan (fin s m e) = refl
beyond_size (inf t) nan = refl
beyond_size (inf false) (inf false) = refl
beyond_size (inf false) (inf true) = refl
beyond_size (inf true) (inf false) = refl
beyond_size (inf true) (inf true) = refl
beyond_size (inf false) (fin s m e) = refl
beyond_size (inf true) (fin s m e) = refl
beyond_size (fin t n d) nan = refl
beyond_size (fin t n d) (inf false) = refl
beyond_size (fin t n d) (inf true) = refl
beyond_size (fin t n d) (fin s m e) = beyond_sizes s t (m * up e * down d) (n * up d * down e)

-- of two numbers, within is not beyond
pub within_not_beyond : (most x : Float) → is_nan most ≡ false → is_nan x ≡ false → within most x ≡ not (beyond most x)
within_not_beyond most x p q =
    rw (le_not_lt (neg most) x (neg_nan most ∙ p) q, le_not_lt x most q p) (neither (lt x (neg most)) (lt most x))
  where
    neither : (u v : Bool) → (not u && not v) ≡ not (v || u)
    neither true true = refl
    neither true false = refl
    neither false true = refl
    neither false false = refl

-- within a limit: at most it in size
pub within_size : (most x : Float) → within most x ≡ le (size_of x) most
within_size most x = by (is_nan most) (is_nan x) refl refl
  where
    nowhere : (u v : Bool) → (u ≡ true → ⊥) → (v ≡ true → ⊥) → u ≡ v
    nowhere true v f g = absurd (f refl)
    nowhere false true f g = absurd (g refl)
    nowhere false false f g = refl

    by : (u v : Bool) → is_nan most ≡ u → is_nan x ≡ v → within most x ≡ le (size_of x) most
    by false false p q = within_not_beyond most x p q ∙ ap not (beyond_size most x) ∙ sym (le_not_lt (size_of x) most (size_nan x ∙ q) p)
    by true v p q =
        nowhere (within most x) (le (size_of x) most)
        (λ h. true≢false (sym p ∙ le_second x most (and_second (le (neg most) x) (le x most) h)))
        (λ h. true≢false (sym p ∙ le_second (size_of x) most h))
    by false true p q =
        nowhere (within most x) (le (size_of x) most)
        (λ h. true≢false (sym q ∙ le_first x most (and_second (le (neg most) x) (le x most) h)))
        (λ h. true≢false (sym (size_nan x ∙ q) ∙ le_first (size_of x) most h))

-- ---- a limit that is not below 0

not_below_size : (x : Float) → lt x zero32 ≡ false → lt x (size_of x) ≡ false
unfolding lt of_bits
not_below_size nan h = refl
not_below_size (inf true) h = absurd (true≢false h)
not_below_size (inf false) h = refl
not_below_size (fin false m d) h = unfold lt in lt_self (fin false m d)
not_below_size (fin true m d) h =
    let a : m * up d ≡ 0 = omega (arith, ltb-false 0 (m * up d * 1 + 0 * down d) h) in
    le-ltb 0 (m * up d * down d + m * up d * down d) (le_of_eq (ap (λ (z : ℕ). z * down d + z * down d) a ∙ ap (λ (z : ℕ). z + z) (zero-mul (down d))))

-- it is within itself
pub within_self : (most : Float) → le zero32 most ≡ true → within most most ≡ true
within_self most h =
    let number = le_second zero32 most h in
    within_size most most
    ∙ le_of_not_lt (size_of most) most (size_nan most ∙ number) number (not_below_size most (not_lt_of_le zero32 most h))

-- ---- finite

-- what lies between finite ends is finite
pub between_finite : (lo hi x : Float) → is_finite lo ≡ true → is_finite hi ≡ true → between lo hi x ≡ true → is_finite x ≡ true
between_finite lo hi nan p q h = absurd (true≢false (unfold is_nan in le_second lo nan (and_first (le lo nan) (le nan hi) h)))
between_finite lo hi (inf false) p q h = absurd (not_above_infinity hi q (and_second (le lo (inf false)) (le (inf false) hi) h))
  where
    not_above_infinity : (y : Float) → is_finite y ≡ true → le (inf false) y ≡ true → ⊥
    not_above_infinity nan e k = false≢true e
    not_above_infinity (inf s) e k = false≢true e
    not_above_infinity (fin s m d) e k = false≢true (unfold le lt eq in k)
between_finite lo hi (inf true) p q h = absurd (not_below_infinity lo p (and_first (le lo (inf true)) (le (inf true) hi) h))
  where
    not_below_infinity : (y : Float) → is_finite y ≡ true → le y (inf true) ≡ true → ⊥
    not_below_infinity nan e k = false≢true e
    not_below_infinity (inf s) e k = false≢true e
    not_below_infinity (fin s m d) e k = false≢true (unfold le lt eq in k)
between_finite lo hi (fin s m d) p q h = refl

-- and so is what is within a finite limit
pub within_finite : (most x : Float) → is_finite most ≡ true → within most x ≡ true → is_finite x ≡ true
within_finite most x p h = between_finite (neg most) most x (finite_neg most ∙ p) p h
  where
    finite_neg : (y : Float) → is_finite (neg y) ≡ is_finite y
    finite_neg nan = unfold neg in refl
    finite_neg (inf s) = unfold neg in refl
    finite_neg (fin s m e) = unfold neg in refl

-- and what is above 0 up to a finite limit
pub positive_finite : (hi x : Float) → is_finite hi ≡ true → positive_to hi x ≡ true → is_finite x ≡ true
positive_finite hi x p h =
    between_finite zero32 hi x (unfold of_bits in refl) p (rw (lt_le zero32 x (and_first (lt zero32 x) (le x hi) h)) (and_second (lt zero32 x) (le x hi) h))

-- a number below c times a power of two, if it is below c * 2 ^ p, is at most (c - 1) * 2 ^ p
capped : (n j c p : ℕ) → n < c → n * 2 ^ j < c * 2 ^ p → n * 2 ^ j ≤ (c - 1) * 2 ^ p
capped n j c p h l = elim (le_or_lt j p) [ inl s ↦ mul-le-mul (omega arith) (pow_mono s) | inr s ↦ split (j - p) (omega arith) ]
  where
    split : (i : ℕ) → i + p ≡ j → n * 2 ^ j ≤ (c - 1) * 2 ^ p
    split i e =
        let q : n * 2 ^ j ≡ n * 2 ^ i * 2 ^ p = ap (λ (z : ℕ). n * 2 ^ z) (sym e) ∙ ap (λ (z : ℕ). n * z) (pow-add 2 i p) ∙ sym (mul_assoc n (2 ^ i) (2 ^ p)) in
        let k : n * 2 ^ i < c = lt_of_mul-lt-mul_right (2 ^ p) (lt_of_le_of_lt (le_of_eq (sym q)) l) in
        le_trans (le_of_eq q) (mul-le-mul_right (2 ^ p) (omega arith))

under_largest : (n : ℕ) (e : ℤ) → n < 2 ^ 24 → n * up e < 2 ^ 128 * down e → n * up e * 1 ≤ (2 ^ 24 - 1) * 2 ^ 104 * down e
under_largest n (pos k) h l = mul-le-mul_right 1 (capped n k (2 ^ 24) 104 h (lt_of_lt_of_le l (le_of_eq (mul-one (2 ^ 128)))))
under_largest n (negsuc k) h l =
    le_trans (le_of_eq (mul-one (n * 1) ∙ mul-one n))
    (le_trans (le_of_lt h) (le_trans (lit≤ tt) (le-mul_of_pos_right ((2 ^ 24 - 1) * 2 ^ 104) (pow_pos (suc k)))))

not_above : (n : ℕ) (e : ℤ) → n * up e * 1 ≤ (2 ^ 24 - 1) * 2 ^ 104 * down e → le (fin false n e) largest ≡ true
unfolding lt is_nan of_bits
not_above n e h = le_of_not_lt (fin false n e) largest refl refl (le-ltb ((2 ^ 24 - 1) * 2 ^ 104 * down e) (n * up e * 1) h)

-- a value of binary32 is finite exactly when it is within the largest
pub within_largest : (x : Float) → T (fits binary32 x) → within largest x ≡ is_finite x
within_largest x f = within_size largest x ∙ below_largest x f
  where
    below_largest : (a : Float) → T (fits binary32 a) → le (size_of a) largest ≡ is_finite a
    below_largest nan h = unfold le lt eq in refl
    below_largest (inf s) h = unfold le lt eq of_bits in refl
    below_largest (fin s zero e) h = not_above zero e (le_trans (le_of_eq (ap (λ (z : ℕ). z * 1) (zero-mul (up e)))) zero-le)
    below_largest (fin s (suc m) e) h = let k = fitting s m e h in not_above (suc m) e (under_largest (suc m) e k.digits k.high)
