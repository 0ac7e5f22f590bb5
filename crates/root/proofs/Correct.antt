-- `root_of` is IEEE 754's square root: for a finite x above zero the result is a binary32 value, and strictly nearer to the true root than any other.
-- The root is no rational number, so that is said of squares: the middle of r and y lies beyond the root, seen from r.
-- No tie can happen, since the order is strict.
-- Assumes nothing.
use Rattle.std.proofs.Common.{◌≡◌, ℕ, zero, suc, ◌+◌, ◌-◌, ◌*◌, ◌/◌, ◌%◌, ◌^◌, ◌<◌, ◌≤◌, Bool, true, false, T, ℤ, sym, refl, ap, ◌∙◌, subst, inl, inr, true≢false, le_trans, le_of_eq, lt_of_lt_of_le, lt_of_le_of_lt, mul-le-mul_right, zero-lt-suc, mul_assoc, mul-le-mul, le_antisymm, lt_of_mul-lt-mul_right, eq-or-lt_of_le, mul-lt-mul_of_pos_right, mul-pos, one-mul, pow-suc, not-le_of_lt, sub-le, arith, lit<, ltb→lt, pow_pos, pow_mono, pow-add, shl_lt}
use lib.Ieee.{Float, nan, inf, fin, binary32, up, down, size, lt, fits, is_nan}
use lib.Ieee.Digits.{size-lt, size_reaches, size-le}
use lib.Ieee.Fits.{down_pos}
use lib.Ieee.Exact.{HasValue}
use lib.Ieee.Positive.{num, den, positive, den_pos, value→cross, positive_of_value}
use Rattle.floats.specs.Floats.{is_finite}
use Rattle.floats.proofs.Values.{le_or_lt, fitting, place, units_of, below_top}
use Rattle.floats.proofs.Rank.{Number, negative, rank_same, lt_false}
use Rattle.root.specs.Root.{isqrt, root_of}
use Rattle.root.specs.Nearest.{square, Nearer, IsNearest}
use Rattle.root.specs.Steps.{units_of_one, Near, LeadOf, ScaledOf}
use Rattle.root.proofs.Whole.{isqrt_is, square_le}
use Rattle.root.proofs.Rounded.{rounded_value}
use Rattle.root.proofs.Leading.{odd_scaled, even_scaled}
use Rattle.root.proofs.Patterns.{near_ge, root_of_units}
use Rattle.root.proofs.Taken.{root_fits}

-- ---- with h = 2 ^ k: q * h is nearest to the root of m * h * h
module _ (m h q Y : ℕ) (H : 0 < h) (w : Near m q) where
  hh : 0 < h * h
  hh = mul-pos H H

  over_middle : (q + 1) * h ≤ Y → 4 * (m * (h * h)) < (q * h + Y) * (q * h + Y)
  over_middle g =
      let a : (2 * q + 1) * h ≤ q * h + Y = omega arith in
      let b = mul-le-mul a a in
      let d = mul-le-mul_right (h * h) w.high in
      omega (arith, hh)

  under_root : q * q ≤ m → Y < q * h → (q * h + Y) * (q * h + Y) < 4 * (m * (h * h))
  under_root l g =
      let a : q * h + Y + 1 ≤ 2 * (q * h) = omega arith in
      let b = mul-le-mul a a in
      let d = mul-le-mul_right (h * h) l in
      omega (arith, hh)

under_middle : (m h p Y : ℕ) → 0 < h → Near m (suc p) → Y ≤ p * h → (suc p * h + Y) * (suc p * h + Y) < 4 * (m * (h * h))
under_middle m h p Y H w g =
    let a : suc p * h + Y ≤ (2 * p + 1) * h = omega arith in
    let b = mul-le-mul a a in
    let c : p * p + p + 1 ≤ m = omega (arith, w.low) in
    let d = mul-le-mul_right (h * h) c in
    omega (arith, mul-pos H H)

-- ---- a value of 24 digits, n * 2 ^ j, beside q * 2 ^ k
whole_steps : (n j k : ℕ) → k ≤ j → n * 2 ^ j ≡ n * 2 ^ (j - k) * 2 ^ k
whole_steps n j k g = ap (λ (x : ℕ). n * x) (ap (λ (x : ℕ). 2 ^ x) (same j k g) ∙ pow-add 2 (j - k) k) ∙ sym (mul_assoc n (2 ^ (j - k)) (2 ^ k))
  where
    same : (a b : ℕ) → b ≤ a → a ≡ a - b + b
    same a b l = omega arith

below_steps : (n j k : ℕ) → n < 2 ^ 24 → j < k → n * 2 ^ j ≤ 2 ^ 23 * 2 ^ k
below_steps n j k h g =
    let a = mul-le-mul_right (2 ^ j) h in
    let b : 2 ^ j * 2 ≤ 2 ^ k = le_trans (le_of_eq (sym (pow-suc 2 j))) (pow_mono g) in
    omega arith

next_step : (n j k q : ℕ) → n < 2 ^ 24 → 2 ^ 23 ≤ q → q * 2 ^ k < n * 2 ^ j → (q + 1) * 2 ^ k ≤ n * 2 ^ j
next_step n j k q h l g = elim (le_or_lt k j) [
  | inl s ↦
      let e = whole_steps n j k s in
      let t : q < n * 2 ^ (j - k) = lt_of_mul-lt-mul_right (2 ^ k) (lt_of_lt_of_le g (le_of_eq e)) in
      le_trans (mul-le-mul_right {m = q + 1} {n = n * 2 ^ (j - k)} (2 ^ k) (omega arith)) (le_of_eq (sym e))
  | inr s ↦ let a = below_steps n j k h s in let b = mul-le-mul_right (2 ^ k) l in omega arith
]

last_step : (n j k p : ℕ) → n < 2 ^ 24 → 2 ^ 23 ≤ p → n * 2 ^ j < suc p * 2 ^ k → n * 2 ^ j ≤ p * 2 ^ k
last_step n j k p h l g = elim (le_or_lt k j) [
  | inl s ↦
      let e = whole_steps n j k s in
      let t : n * 2 ^ (j - k) < suc p = lt_of_mul-lt-mul_right (2 ^ k) (lt_of_le_of_lt (le_of_eq (sym e)) g) in
      le_trans (le_of_eq e) (mul-le-mul_right {m = n * 2 ^ (j - k)} {n = p} (2 ^ k) (omega arith))
  | inr s ↦ let a = below_steps n j k h s in let b = mul-le-mul_right (2 ^ k) l in omega arith
]

-- ---- so the middle of q * 2 ^ k and n * 2 ^ j lies beyond the root of m * 4 ^ k
beyond_up : (m k q n j : ℕ)
    → 2 ^ 46 ≤ m
    → Near m q
    → n < 2 ^ 24
    → q * 2 ^ k < n * 2 ^ j
    → 4 * (m * (2 ^ k * 2 ^ k)) < (q * 2 ^ k + n * 2 ^ j) * (q * 2 ^ k + n * 2 ^ j)
beyond_up m k q n j lo w h g = over_middle m (2 ^ k) q (n * 2 ^ j) (pow_pos k) w (next_step n j k q h (near_ge m q lo w) g)

beyond_down : (m k q n j : ℕ)
    → 2 ^ 46 ≤ m
    → Near m q
    → n < 2 ^ 24
    → n * 2 ^ j < q * 2 ^ k
    → (q * 2 ^ k + n * 2 ^ j) * (q * 2 ^ k + n * 2 ^ j) < 4 * (m * (2 ^ k * 2 ^ k))
beyond_down m k zero n j lo w h g = omega arith
beyond_down m k (suc p) n j lo w h g = elim (le_or_lt (suc p * suc p) m) [
  | inl s ↦ under_root m (2 ^ k) (suc p) (n * 2 ^ j) (pow_pos k) w s g
  | inr s ↦ under_middle m (2 ^ k) p (n * 2 ^ j) (pow_pos k) w (last_step n j k p h (large s) g)
]
  where
    large : m < suc p * suc p → 2 ^ 23 ≤ p
    large s = elim (le_or_lt (2 ^ 23) p) [ inl l ↦ l | inr l ↦ let a = mul-le-mul l l in omega arith ]

-- ---- from units back to the values: U units are 1, x is X units, r + y is Z units
module _ (U X Z nx dx S D : ℕ) (p : 0 < U) (P : 0 < D) (Q : 0 < dx) (x : nx * U ≡ X * dx) where
  back_down : S * U ≤ Z * D → Z * Z < 4 * (X * U) → S * S * dx < 4 * nx * (D * D)
  back_down s g =
      let a : S * U * (S * U) * dx ≤ Z * D * (Z * D) * dx = mul-le-mul_right dx (mul-le-mul s s) in
      let b : Z * Z * (D * D * dx) < 4 * (X * U) * (D * D * dx) = mul-lt-mul_of_pos_right g (mul-pos (mul-pos P P) Q) in
      let c : nx * U * (U * D * D) ≡ X * dx * (U * D * D) = ap (λ (z : ℕ). z * (U * D * D)) x in
      lt_of_mul-lt-mul_right (U * U) (omega arith)

  back_up : S * U ≡ Z * D → 4 * (X * U) < Z * Z → 4 * nx * (D * D) < S * S * dx
  back_up s g =
      let a : S * U * (S * U) * dx ≡ Z * D * (Z * D) * dx = ap (λ (z : ℕ). z * z * dx) s in
      let b : 4 * (X * U) * (D * D * dx) < Z * Z * (D * D * dx) = mul-lt-mul_of_pos_right g (mul-pos (mul-pos P P) Q) in
      let c : nx * U * (U * D * D) ≡ X * dx * (U * D * D) = ap (λ (z : ℕ). z * (U * D * D)) x in
      lt_of_mul-lt-mul_right (U * U) (omega arith)

-- the same sum, and the same order, in units
sum_units : (U R Y nr dr ny dy : ℕ) → nr * U ≡ R * dr → ny * U ≡ Y * dy → (nr * dy + ny * dr) * U ≡ (R + Y) * (dr * dy)
sum_units U R Y nr dr ny dy e f =
    let a : nr * U * dy ≡ R * dr * dy = ap (λ (z : ℕ). z * dy) e in
    let b : ny * U * dr ≡ Y * dy * dr = ap (λ (z : ℕ). z * dr) f in
    omega arith

less_units : (U R Y nr dr ny dy : ℕ) → 0 < U → nr * U ≡ R * dr → ny * U ≡ Y * dy → nr * dy < ny * dr → R < Y
less_units U R Y nr dr ny dy p e f g =
    let a : nr * U * dy ≡ R * dr * dy = ap (λ (z : ℕ). z * dy) e in
    let b : ny * U * dr ≡ Y * dy * dr = ap (λ (z : ℕ). z * dr) f in
    let c : nr * dy * U < ny * dr * U = mul-lt-mul_of_pos_right g p in
    lt_of_mul-lt-mul_right (dr * dy) (omega arith)

-- what is taken away makes a sum no larger
less_sum : (U R nr dr t dy : ℕ) → nr * U ≡ R * dr → (nr * dy - t) * U ≤ (R + 0) * (dr * dy)
less_sum U R nr dr t dy e =
    let a : nr * U * dy ≡ R * dr * dy = ap (λ (z : ℕ). z * dy) e in
    let b : (nr * dy - t) * U ≤ nr * dy * U = mul-le-mul_right U (sub-le (nr * dy) t) in
    omega arith

-- ---- every other value is farther
module _ (x r : Float) (X m k q : ℕ) (vx : num x * 2 ^ 149 ≡ X * den x) (e : X * 2 ^ 149 ≡ m * (2 ^ k * 2 ^ k)) (lo : 2 ^ 46 ≤ m) (w : Near m q) where
  farther_up : (n j D S : ℕ) → 0 < D → n < 2 ^ 24 → S * 2 ^ 149 ≡ (q * 2 ^ k + n * 2 ^ j) * D → q * 2 ^ k < n * 2 ^ j → 4 * num x * (D * D) < S * S * den x
  farther_up n j D S P h s g =
      back_up (2 ^ 149) X (q * 2 ^ k + n * 2 ^ j) (num x) (den x) S D (pow_pos 149) P (den_pos x) vx s (rw e (beyond_up m k q n j lo w h g))

  farther_down : (n j D S : ℕ) → 0 < D → n < 2 ^ 24 → S * 2 ^ 149 ≤ (q * 2 ^ k + n * 2 ^ j) * D → n * 2 ^ j < q * 2 ^ k → S * S * den x < 4 * num x * (D * D)
  farther_down n j D S P h s g =
      back_down (2 ^ 149) X (q * 2 ^ k + n * 2 ^ j) (num x) (den x) S D (pow_pos 149) P (den_pos x) vx s (rw e (beyond_down m k q n j lo w h g))

nearer_all : (x r y : Float) (X m k q : ℕ) → num x * 2 ^ 149 ≡ X * den x → X * 2 ^ 149 ≡ m * (2 ^ k * 2 ^ k) → 2 ^ 46 ≤ m → Near m q
    → HasValue r false (q * 2 ^ k) (2 ^ 149) → T (fits binary32 y) → T (is_finite y) → Nearer x r y
unfolding lt
nearer_all x nan y X m k q vx e lo w v f t = elim v [ ]
nearer_all x (inf _) y X m k q vx e lo w v f t = elim v [ ]
nearer_all x (fin false a b) nan X m k q vx e lo w v f t = elim t [ ]
nearer_all x (fin false a b) (inf _) X m k q vx e lo w v f t = elim t [ ]
nearer_all x (fin true a b) y X m k q vx e lo w v f t = absurd (true≢false v.0)
nearer_all x (fin false a b) (fin true n d) X m k q vx e lo w v f t = record {
  above = λ (g : T (lt (fin false a b) (fin true n d))). absurd g;
  below = λ (g : T (lt (fin true n d) (fin false a b))).
      farther_down x (fin false a b) X m k q vx e lo w 0 0 (down b * down d) (a * up b * down d - n * up d * down b)
      (mul-pos (down_pos b) (down_pos d)) (lit< tt)
      (less_sum (2 ^ 149) (q * 2 ^ k) (a * up b) (down b) (n * up d * down b) (down d) v.1)
      (mul-pos {m = q} (lt_of_lt_of_le (lit< tt) (near_ge m q lo w)) (pow_pos k));
}
nearer_all x (fin false a b) (fin false n d) X m k q vx e lo w v f t =
    let u = units_of false n d f in
    let j = u.1.0 in
    let s : (a * up b * down d + n * up d * down b) * 2 ^ 149 ≡ (q * 2 ^ k + n * 2 ^ j) * (down b * down d) =
    sum_units (2 ^ 149) (q * 2 ^ k) (n * 2 ^ j) (a * up b) (down b) (n * up d) (down d) v.1 u.1.1 in
    record {
      above = λ (g : T (lt (fin false a b) (fin false n d))).
          farther_up x (fin false a b) X m k q vx e lo w n j (down b * down d) (a * up b * down d + n * up d * down b)
          (mul-pos (down_pos b) (down_pos d)) u.0 s
          (less_units (2 ^ 149) (q * 2 ^ k) (n * 2 ^ j) (a * up b) (down b) (n * up d) (down d) (pow_pos 149) v.1
          u.1.1 (ltb→lt (a * up b * down d) (n * up d * down b) g));
      below = λ (g : T (lt (fin false n d) (fin false a b))).
          farther_down x (fin false a b) X m k q vx e lo w n j (down b * down d) (a * up b * down d + n * up d * down b)
          (mul-pos (down_pos b) (down_pos d)) u.0 (le_of_eq s)
          (less_units (2 ^ 149) (n * 2 ^ j) (q * 2 ^ k) (n * up d) (down d) (a * up b) (down b) (pow_pos 149) u.1.1
          v.1 (ltb→lt (n * up d * down b) (a * up b * down d) g));
    }

-- ---- every x above zero has its m, k and q
same_power : (n t j : ℕ) → t ≤ j + 149 → n * 2 ^ j * units_of_one ≡ n * 2 ^ t * 2 ^ (j + 149 - t)
unfolding units_of_one
same_power n t j h =
    mul_assoc n (2 ^ j) (2 ^ 149)
    ∙ ap (λ (z : ℕ). n * z) (sym (pow-add 2 j 149) ∙ ap (λ (z : ℕ). 2 ^ z) (same (j + 149) t h) ∙ pow-add 2 t (j + 149 - t))
    ∙ sym (mul_assoc n (2 ^ t) (2 ^ (j + 149 - t)))
  where
    same : (a b : ℕ) → b ≤ a → a ≡ b + (a - b)
    same a b l = omega arith

small_power : (n j : ℕ) → suc n * 2 ^ j < 2 ^ 277 → j < 277
small_power n j h = elim (le_or_lt 277 j) [
  | inl g ↦ absurd (not-le_of_lt h (le_trans (pow_mono g) (le_trans (le_of_eq (sym (one-mul (2 ^ j)))) (mul-le-mul_right (2 ^ j) (zero-lt-suc n)))))
  | inr g ↦ g
]

leading : (n j z t : ℕ) → suc n < 2 ^ z → 0 < z → 2 ^ (z - 1) ≤ suc n → z + t ≡ 24 → j < 277 → LeadOf (suc n * 2 ^ j * units_of_one) (suc n * 2 ^ t) (j + 149 - t)
leading n j z t a p b e g =
    let c : 2 ^ (z - 1 + t) ≡ 2 ^ 23 = ap (λ (x : ℕ). 2 ^ x) {x = z - 1 + t} {y = 23} (omega arith) in
    let d : 2 ^ (z + t) ≡ 2 ^ 24 = ap (λ (x : ℕ). 2 ^ x) e in
    record {
      same = same_power (suc n) t j (omega arith);
      low = le_trans (le_of_eq (sym c ∙ pow-add 2 (z - 1) t)) (mul-le-mul_right (2 ^ t) b);
      high = lt_of_lt_of_le (shl_lt z t a) (le_of_eq d);
      least = omega arith;
      most = omega arith;
    }

lead_exists : (n j : ℕ) → suc n < 2 ^ 24 → j < 277 → (m : ℕ) × (i : ℕ) × LeadOf (suc n * 2 ^ j * units_of_one) m i
lead_exists n j h g =
    let z = size (suc n) in
    let a : z ≤ 24 = size-le (suc n) 24 h in
    let p : 0 < z = some z (size-lt (suc n)) in
    (suc n * 2 ^ (24 - z), j + 149 - (24 - z), leading n j z (24 - z) (size-lt (suc n)) p (size_reaches (suc n) (z - 1) (omega arith)) (omega arith) g)
  where
    some : (z : ℕ) → suc n < 2 ^ z → 0 < z
    some zero l = omega arith
    some (suc z) l = omega arith

scaled_exists : (u n j : ℕ) → LeadOf u n j → (m : ℕ) × (k : ℕ) × ScaledOf u m k
scaled_exists u n j l = elim (eq-or-lt_of_le {n = j % 2} {m = 1} (omega arith)) [
  | inl o ↦ (n * 2 ^ 23, (j - 23) / 2, odd_scaled u n j l o)
  | inr o ↦ (n * 2 ^ 24, (j - 24) / 2, even_scaled u n j l (omega arith))
]

near_exists : (m : ℕ) → 0 < m → (q : ℕ) × Near m q
near_exists m p =
    let s = isqrt m in
    let r = isqrt_is m in
    elim (le_or_lt m (s * s + s)) [
      | inl g ↦ (s, record { low = omega (arith, r.0, square_le 1 s (omega (arith, r.1))); high = g })
      | inr g ↦ (s + 1, record { low = omega arith; high = omega (arith, r.1) })
    ]

-- ---- the theorem
by_units : (x : Float) (X m k : ℕ) → T (fits binary32 x) → HasValue x false X (2 ^ 149) → 0 < X → ScaledOf (X * units_of_one) m k → IsNearest x (root_of x)
unfolding units_of_one
by_units x X m k f v p s =
    let n = near_exists m (lt_of_lt_of_le (lit< tt) s.low) in
    let q = n.0 in
    let w = n.1 in
    let h : HasValue (root_of x) false (q * 2 ^ k) (2 ^ 149) =
    subst (λ (r : Float). HasValue r false (q * 2 ^ k) (2 ^ 149)) (sym (root_of_units x X v p))
    (rounded_value (X * 2 ^ 149) m k q s.same s.low s.high w s.least s.most) in
    record {
      holds = root_fits x f;
      number = positive_of_value (root_of x) (q * 2 ^ k) (2 ^ 149) h (mul-pos {m = q} (lt_of_lt_of_le (lit< tt) (near_ge m q s.low w)) (pow_pos k));
      nearer =
          λ (y : Float) (g : T (fits binary32 y)) (t : T (is_finite y)).
          nearer_all x (root_of x) y X m k q (value→cross x X (2 ^ 149) v) s.same s.low w h g t;
    }

pub correct : (x : Float) → T (fits binary32 x) → T (positive x) → IsNearest x (root_of x)
correct nan f p = elim p [ ]
correct (inf _) f p = elim p [ ]
correct (fin false zero e) f p = elim p [ ]
correct (fin true _ e) f p = elim p [ ]
correct (fin false (suc n) e) f p =
    let g = fitting false n e f in
    let u = place (suc n) e g.low in
    let X = suc n * 2 ^ u.0 in
    let l = lead_exists n u.0 g.digits (small_power n u.0 (below_top (suc n * up e) X (down e) (down_pos e) u.1 g.high)) in
    let s = scaled_exists (X * units_of_one) l.0 l.1 l.2 in
    by_units (fin false (suc n) e) X s.0 s.1 f (refl, u.1) (mul-pos (zero-lt-suc n) (pow_pos u.0)) s.2

-- ---- and it is the only one
clash : (nx dx nr dr ny dy : ℕ) → 4 * nx * square (dr * dy) < square (nr * dy + ny * dr) * dx → square (ny * dr + nr * dy) * dx < 4 * nx * square (dy * dr) → ⊥
clash nx dx nr dr ny dy g h = omega arith

finite_number : (s : Bool) (m : ℕ) (e : ℤ) → T (fits binary32 (fin s m e)) → Number (fin s m e)
finite_number s m e f = record { held = f; number = unfold is_nan in refl }

pub only : (x r y : Float) → IsNearest x r → IsNearest x y → r ≡ y
only x (fin false a b) (fin false n d) p q = go (lt (fin false a b) (fin false n d)) (lt (fin false n d) (fin false a b)) refl refl
  where
    go : (u v : Bool) → lt (fin false a b) (fin false n d) ≡ u → lt (fin false n d) (fin false a b) ≡ v → fin false a b ≡ fin false n d
    go true v g h =
        let t : T (lt (fin false a b) (fin false n d)) = subst T (sym g) tt in
        absurd (clash (num x) (den x) (a * up b) (down b) (n * up d) (down d)
        ((p.nearer (fin false n d) q.holds tt).above t) ((q.nearer (fin false a b) p.holds tt).below t))
    go false true g h =
        let t : T (lt (fin false n d) (fin false a b)) = subst T (sym h) tt in
        absurd (clash (num x) (den x) (n * up d) (down d) (a * up b) (down b)
        ((q.nearer (fin false a b) p.holds tt).above t) ((p.nearer (fin false n d) q.holds tt).below t))
    go false false g h =
        let i = finite_number false a b p.holds in
        let j = finite_number false n d q.holds in
        rank_same (fin false a b) (fin false n d) i j (unfold negative in refl)
        (le_antisymm (lt_false (fin false n d) (fin false a b) j i h)
        (lt_false (fin false a b) (fin false n d) i j g))
only x nan y p q = absurd p.number
only x (inf s) y p q = absurd p.number
only x (fin true a b) y p q = absurd p.number
only x (fin false a b) nan p q = absurd q.number
only x (fin false a b) (inf t) p q = absurd q.number
only x (fin false a b) (fin true n d) p q = absurd q.number
