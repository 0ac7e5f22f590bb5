-- Every number of binary32, the infinities too, as a whole number, its rank: the order of the floats is that of the
-- ranks. So `omega` proves what follows from comparisons of floats. Assumes nothing.
use Rattle.std.proofs.Common.{◌≡◌, ℕ, zero, suc, ◌+◌, ◌-◌, ◌*◌, ◌/◌, ◌^◌, ◌<◌, ◌≤◌, Bool, true, false, cond, not, ◌&&◌, ◌||◌, T, eqb, ltb, leb, ℤ, sym, refl, ap, ◌∙◌, subst, true≢false, zero-le, le_of_eq, le_refl, lt_of_lt_of_le, lt_of_le_of_lt, le_of_lt, lt_of_mul-lt-mul_right, mul-lt-mul_of_pos_right, mul-pos, ne_of_gt, zero-mul, ne_of_lt, mul-div_cancel, arith, pow_pos, ltb-false, ltb-true, le-ltb, lt-ltb, eq-eqb, ne_eqb, eqb-true, le-leb, leb-true}
use native.Mathlib.Nat.{eq_of_mul-eq-mul_right}
use mathlib.Core.Bool.{beq, and-true, or-false}
use lib.Arith.{lt_of_le-ne}
use lib.Ieee.{Float, nan, inf, fin, binary32, up, down, size, lt, le, eq, below, level, fits, is_nan, of_bits, to_bits}
use lib.Ieee.Bits.{of_bits-to_bits}
use lib.Ieee.Fits.{down_pos}
use lib.Ieee.Positive.{first_pos}
use borrow.Author.Tests.{lt-leb, eqb-false}
use Rattle.lists.proofs.Bools.{both_ways}
use Rattle.floats.proofs.Values.{units_of, fitting, below_top}

-- ---- the definition

-- the infinity, counted in units: more than any number
unfoldable pub top : ℕ
top = 2 ^ 277

-- the size in units
unfoldable pub units : Float → ℕ
unfolding top
units nan = 0
units (inf s) = top
units (fin s m e) = m * up e * 2 ^ 149 / down e

unfoldable pub negative : Float → Bool
negative nan = false
negative (inf s) = s
negative (fin s m e) = s

abbrev pub placed : Bool → ℕ → ℕ
placed false n = top + n
placed true n = top - n

pub rank : Float → ℕ
rank x = placed (negative x) (units x)

-- ---- two tests are equal
same_lt : (a b x y : ℕ) → (a < b → x < y) → (x < y → a < b) → ltb a b ≡ ltb x y
same_lt a b x y f g =
    both_ways (ltb a b) (ltb x y) (λ (h : ltb a b ≡ true). lt-ltb x y (f (ltb-true a b h)))
    (λ (h : ltb x y ≡ true). lt-ltb a b (g (ltb-true x y h)))

same_eq : (a b x y : ℕ) → (a ≡ b → x ≡ y) → (x ≡ y → a ≡ b) → eqb a b ≡ eqb x y
same_eq a b x y f g =
    both_ways (eqb a b) (eqb x y) (λ (h : eqb a b ≡ true). eq-eqb x y (f (eqb-true a b h)))
    (λ (h : eqb x y ≡ true). eq-eqb a b (g (eqb-true x y h)))

-- ---- a finite value's units
exact : (s : Bool) (m : ℕ) (e : ℤ) → T (fits binary32 (fin s m e)) → m * up e * 2 ^ 149 ≡ units (fin s m e) * down e
unfolding units
exact s m e f =
    let u = units_of s m e f in
    u.1.1 ∙ ap (λ (z : ℕ). z * down e) (sym (ap (λ (z : ℕ). z / down e) u.1.1 ∙ mul-div_cancel (m * 2 ^ u.1.0) (down_pos e)))

finite_under : (s : Bool) (m : ℕ) (e : ℤ) → T (fits binary32 (fin s m e)) → units (fin s m e) < top
unfolding top
finite_under s zero e f =
    lt_of_mul-lt-mul_right (down e)
    (lt_of_le_of_lt
    (le_of_eq (sym (exact s zero e f) ∙ ap (λ (z : ℕ). z * 2 ^ 149) (zero-mul (up e)) ∙ zero-mul (2 ^ 149)))
    (mul-pos (pow_pos 277) (down_pos e)))
finite_under s (suc m) e f = below_top (suc m * up e) (units (fin s (suc m) e)) (down e) (down_pos e) (exact s (suc m) e f) (fitting s m e f).high

-- ---- two finite values: a / d and b / g as X and Y units
module _ (U a d b g X Y : ℕ) (P : 0 < U) (D : 0 < d) (G : 0 < g) (p : a * U ≡ X * d) (q : b * U ≡ Y * g) where
  scaled_left : a * g * U ≡ X * (d * g)
  scaled_left = let h : a * U * g ≡ X * d * g = ap (λ (z : ℕ). z * g) p in omega arith

  scaled_right : b * d * U ≡ Y * (d * g)
  scaled_right = let h : b * U * d ≡ Y * g * d = ap (λ (z : ℕ). z * d) q in omega arith

  cross_lt : ltb (a * g) (b * d) ≡ ltb X Y
  cross_lt =
      same_lt (a * g) (b * d) X Y
      (λ (h : a * g < b * d).
      lt_of_mul-lt-mul_right (d * g)
      (lt_of_le_of_lt (le_of_eq (sym scaled_left))
      (lt_of_lt_of_le (mul-lt-mul_of_pos_right h P) (le_of_eq scaled_right))))
      (λ (h : X < Y).
      lt_of_mul-lt-mul_right U
      (lt_of_le_of_lt (le_of_eq scaled_left)
      (lt_of_lt_of_le (mul-lt-mul_of_pos_right h (mul-pos D G)) (le_of_eq (sym scaled_right)))))

  cross_eq : eqb (a * g) (b * d) ≡ eqb X Y
  cross_eq =
      same_eq (a * g) (b * d) X Y
      (λ (h : a * g ≡ b * d). eq_of_mul-eq-mul_right (d * g) (mul-pos D G) X Y (sym scaled_left ∙ ap (λ (z : ℕ). z * U) h ∙ scaled_right))
      (λ (h : X ≡ Y). eq_of_mul-eq-mul_right U P (a * g) (b * d) (scaled_left ∙ ap (λ (z : ℕ). z * (d * g)) h ∙ sym scaled_right))

  cross_some : ltb 0 (a * g + b * d) ≡ ltb 0 (X + Y)
  cross_some =
      let e : (a * g + b * d) * U ≡ (X + Y) * (d * g) = (let h = scaled_left in let k = scaled_right in omega arith) in
      same_lt 0 (a * g + b * d) 0 (X + Y)
      (λ (h : 0 < a * g + b * d). first_pos (X + Y) (d * g) (subst (λ (z : ℕ). 0 < z) e (mul-pos h P)))
      (λ (h : 0 < X + Y). first_pos (a * g + b * d) U (subst (λ (z : ℕ). 0 < z) (sym e) (mul-pos h (mul-pos D G))))

  cross_none : eqb (a * g) 0 ≡ eqb X 0
  cross_none =
      same_eq (a * g) 0 X 0
      (λ (h : a * g ≡ 0). eq_of_mul-eq-mul_right (d * g) (mul-pos D G) X 0 (sym scaled_left ∙ ap (λ (z : ℕ). z * U) h ∙ zero-mul U ∙ sym (zero-mul (d * g))))
      (λ (h : X ≡ 0). eq_of_mul-eq-mul_right U P (a * g) 0 (scaled_left ∙ ap (λ (z : ℕ). z * (d * g)) h ∙ zero-mul (d * g) ∙ sym (zero-mul U)))

module _ (U a d b g X Y : ℕ) (P : 0 < U) (D : 0 < d) (G : 0 < g) (p : a * U ≡ X * d) (q : b * U ≡ Y * g) where
  cross_below : (s t : Bool) → below s (a * g) t (b * d) ≡ below s X t Y
  cross_below false false = cross_lt U a d b g X Y P D G p q
  cross_below false true = refl
  cross_below true false = cross_some U a d b g X Y P D G p q
  cross_below true true = cross_lt U b g a d Y X P G D q p

  cross_level : (s t : Bool) → level s (a * g) t (b * d) ≡ level s X t Y
  cross_level s t =
      ap (λ (v : Bool). v && (beq s t || eqb (a * g) 0)) (cross_eq U a d b g X Y P D G p q)
      ∙ ap (λ (v : Bool). eqb X Y && (beq s t || v)) (cross_none U a d b g X Y P D G p q)

-- ---- signed units and ranks
placed_below : (s t : Bool) (X Y : ℕ) → X ≤ top → Y ≤ top → below s X t Y ≡ ltb (placed s X) (placed t Y)
placed_below false false X Y h k = same_lt X Y (top + X) (top + Y) (λ (l : X < Y). omega arith) (λ (l : top + X < top + Y). omega arith)
placed_below false true X Y h k = sym (le-ltb (top + X) (top - Y) (omega arith))
placed_below true false X Y h k = same_lt 0 (X + Y) (top - X) (top + Y) (λ (l : 0 < X + Y). omega arith) (λ (l : top - X < top + Y). omega arith)
placed_below true true X Y h k = same_lt Y X (top - X) (top - Y) (λ (l : Y < X). omega arith) (λ (l : top - X < top - Y). omega arith)

both : (a b c d : ℕ) → (a ≡ b → a ≡ 0 → c ≡ d) → (c ≡ d → a ≡ b) → (c ≡ d → a ≡ 0) → (eqb a b && eqb a 0) ≡ eqb c d
both a b c d f g h = go (eqb a b) (eqb a 0) refl refl
  where
    go : (u v : Bool) → eqb a b ≡ u → eqb a 0 ≡ v → (u && v) ≡ eqb c d
    go true true p q = sym (eq-eqb c d (f (eqb-true a b p) (eqb-true a 0 q)))
    go true false p q = sym (ne_eqb c d (λ (k : c ≡ d). eqb-false a 0 q (h k)))
    go false v p q = sym (ne_eqb c d (λ (k : c ≡ d). eqb-false a b p (g k)))

placed_level : (s t : Bool) (X Y : ℕ) → X ≤ top → Y ≤ top → level s X t Y ≡ eqb (placed s X) (placed t Y)
placed_level false false X Y h k = and-true (eqb X Y) ∙ same_eq X Y (top + X) (top + Y) (λ (l : X ≡ Y). omega arith) (λ (l : top + X ≡ top + Y). omega arith)
placed_level true true X Y h k = and-true (eqb X Y) ∙ same_eq X Y (top - X) (top - Y) (λ (l : X ≡ Y). omega arith) (λ (l : top - X ≡ top - Y). omega arith)
placed_level false true X Y h k =
    both X Y (top + X) (top - Y) (λ (l : X ≡ Y) (o : X ≡ 0). omega arith) (λ (l : top + X ≡ top - Y). omega arith) (λ (l : top + X ≡ top - Y). omega arith)
placed_level true false X Y h k =
    both X Y (top - X) (top + Y) (λ (l : X ≡ Y) (o : X ≡ 0). omega arith) (λ (l : top - X ≡ top + Y). omega arith) (λ (l : top - X ≡ top + Y). omega arith)

-- ---- the laws

-- a number of binary32, or an infinity
pub record Number (x : Float) : Type 0 where
  pub held : T (fits binary32 x)
  pub number : is_nan x ≡ false

top_pos : 0 < top
unfolding top
top_pos = pow_pos 277

in_top : (x : Float) → T (fits binary32 x) → units x ≤ top
unfolding units
in_top nan f = zero-le
in_top (inf s) f = le_refl top
in_top (fin s m e) f = le_of_lt (finite_under s m e f)

-- the infinities beside each other and beside numbers
inf_inf : (s t : Bool) → (s && not t) ≡ below s top t top
inf_inf false false = sym (le-ltb top top (le_refl top))
inf_inf false true = refl
inf_inf true false = sym (lt-ltb 0 (top + top) (let p = top_pos in omega arith))
inf_inf true true = sym (le-ltb top top (le_refl top))

inf_fin : (s t : Bool) (n : ℕ) → n < top → s ≡ below s top t n
inf_fin false false n h = sym (le-ltb top n (le_of_lt h))
inf_fin false true n h = refl
inf_fin true false n h = sym (lt-ltb 0 (top + n) (let p = top_pos in omega arith))
inf_fin true true n h = sym (lt-ltb n top h)

fin_inf : (s t : Bool) (n : ℕ) → n < top → not t ≡ below s n t top
fin_inf false false n h = sym (lt-ltb n top h)
fin_inf false true n h = refl
fin_inf true false n h = sym (lt-ltb 0 (n + top) (let p = top_pos in omega arith))
fin_inf true true n h = sym (le-ltb top n (le_of_lt h))

inf_level : (s t : Bool) → beq s t ≡ level s top t top
inf_level s t = rw (eq-eqb top top refl, ne_eqb top 0 (ne_of_gt top_pos)) (sym (or-false (beq s t)))

inf_no : (s t : Bool) (n : ℕ) → n < top → false ≡ level s top t n
inf_no s t n h = rw (ne_eqb top n (ne_of_gt h))

no_inf : (s t : Bool) (n : ℕ) → n < top → false ≡ level s n t top
no_inf s t n h = rw (ne_eqb n top (ne_of_lt h))

infinite : (s : Bool) → top ≡ units (inf s)
unfolding units
infinite s = refl

-- a comparison as one of signed units
lt_units : (x y : Float) → Number x → Number y → lt x y ≡ below (negative x) (units x) (negative y) (units y)
unfolding lt negative units is_nan
lt_units nan y p q = absurd (true≢false p.number)
lt_units (inf s) nan p q = absurd (true≢false q.number)
lt_units (inf s) (inf t) p q = inf_inf s t
lt_units (inf s) (fin t n d) p q = inf_fin s t (units (fin t n d)) (finite_under t n d q.held)
lt_units (fin s m e) nan p q = absurd (true≢false q.number)
lt_units (fin s m e) (inf t) p q = fin_inf s t (units (fin s m e)) (finite_under s m e p.held)
lt_units (fin s m e) (fin t n d) p q =
    cross_below (2 ^ 149) (m * up e) (down e) (n * up d) (down d) (units (fin s m e)) (units (fin t n d)) (pow_pos 149)
    (down_pos e) (down_pos d) (exact s m e p.held) (exact t n d q.held) s t

eq_units : (x y : Float) → Number x → Number y → eq x y ≡ level (negative x) (units x) (negative y) (units y)
unfolding eq negative units is_nan
eq_units nan y p q = absurd (true≢false p.number)
eq_units (inf s) nan p q = absurd (true≢false q.number)
eq_units (inf s) (inf t) p q = inf_level s t
eq_units (inf s) (fin t n d) p q = inf_no s t (units (fin t n d)) (finite_under t n d q.held)
eq_units (fin s m e) nan p q = absurd (true≢false q.number)
eq_units (fin s m e) (inf t) p q = no_inf s t (units (fin s m e)) (finite_under s m e p.held)
eq_units (fin s m e) (fin t n d) p q =
    cross_level (2 ^ 149) (m * up e) (down e) (n * up d) (down d) (units (fin s m e)) (units (fin t n d)) (pow_pos 149)
    (down_pos e) (down_pos d) (exact s m e p.held) (exact t n d q.held) s t

pub lt_rank : (x y : Float) → Number x → Number y → lt x y ≡ ltb (rank x) (rank y)
unfolding rank
lt_rank x y p q = lt_units x y p q ∙ placed_below (negative x) (negative y) (units x) (units y) (in_top x p.held) (in_top y q.held)

pub eq_rank : (x y : Float) → Number x → Number y → eq x y ≡ eqb (rank x) (rank y)
unfolding rank
eq_rank x y p q = eq_units x y p q ∙ placed_level (negative x) (negative y) (units x) (units y) (in_top x p.held) (in_top y q.held)

pub le_rank : (x y : Float) → Number x → Number y → le x y ≡ leb (rank x) (rank y)
unfolding le
le_rank x y p q =
    ap (λ (b : Bool). b || eq x y) (lt_rank x y p q)
    ∙ ap (λ (b : Bool). ltb (rank x) (rank y) || b) (eq_rank x y p q)
    ∙ lt_or_eq (rank x) (rank y)
  where
    lt_or_eq : (a b : ℕ) → (ltb a b || eqb a b) ≡ leb a b
    lt_or_eq a b = go (ltb a b) (eqb a b) refl refl
      where
        go : (u v : Bool) → ltb a b ≡ u → eqb a b ≡ v → (u || v) ≡ leb a b
        go true v p q = sym (le-leb a b (le_of_lt (ltb-true a b p)))
        go false true p q = sym (le-leb a b (le_of_eq (eqb-true a b q)))
        go false false p q = sym (lt-leb a b (lt_of_le-ne (ltb-false a b p) (λ (e : b ≡ a). eqb-false a b q (sym e))))

-- ---- what a caller wants of them: `omega` on ranks proves the rest
pub lt_true : (x y : Float) → Number x → Number y → lt x y ≡ true → rank x < rank y
lt_true x y p q h = ltb-true (rank x) (rank y) (sym (lt_rank x y p q) ∙ h)

pub lt_false : (x y : Float) → Number x → Number y → lt x y ≡ false → rank y ≤ rank x
lt_false x y p q h = ltb-false (rank x) (rank y) (sym (lt_rank x y p q) ∙ h)

pub le_true : (x y : Float) → Number x → Number y → le x y ≡ true → rank x ≤ rank y
le_true x y p q h = leb-true (rank x) (rank y) (sym (le_rank x y p q) ∙ h)

pub is_lt : (x y : Float) → Number x → Number y → rank x < rank y → lt x y ≡ true
is_lt x y p q h = lt_rank x y p q ∙ lt-ltb (rank x) (rank y) h

pub is_le : (x y : Float) → Number x → Number y → rank x ≤ rank y → le x y ≡ true
is_le x y p q h = le_rank x y p q ∙ le-leb (rank x) (rank y) h

pub is_not_lt : (x y : Float) → Number x → Number y → rank y ≤ rank x → lt x y ≡ false
is_not_lt x y p q h = lt_rank x y p q ∙ le-ltb (rank x) (rank y) h

-- ---- the same rank and the same sign: the same value
same_units : (s : Bool) (X Y : ℕ) → X ≤ top → Y ≤ top → placed s X ≡ placed s Y → X ≡ Y
same_units false X Y h k e = omega arith
same_units true X Y h k e = omega arith

-- the pattern of a finite value, by its sign and units
written : Bool → ℕ → ℕ
written s n = cond s (2 ^ 31) 0 + (size n - 24) * 2 ^ 23 + n / 2 ^ (size n - 24)

pattern : (s : Bool) (m : ℕ) (e : ℤ) → to_bits binary32 (fin s m e) ≡ written s (units (fin s m e))
unfolding to_bits units written
pattern s m e = refl

pub units_same : (x y : Float) → Number x → Number y → negative x ≡ negative y → units x ≡ units y → x ≡ y
unfolding negative
units_same nan y p q s u = absurd (true≢false (unfold is_nan in p.number))
units_same (inf s) nan p q e u = absurd (true≢false (unfold is_nan in q.number))
units_same (inf s) (inf t) p q e u = ap inf e
units_same (inf s) (fin t n d) p q e u = absurd (ne_of_gt (finite_under t n d q.held) (infinite s ∙ u))
units_same (fin s m e) nan p q h u = absurd (true≢false (unfold is_nan in q.number))
units_same (fin s m e) (inf t) p q h u = absurd (ne_of_lt (finite_under s m e p.held) (u ∙ sym (infinite t)))
units_same (fin s m e) (fin t n d) p q h u =
    sym (of_bits-to_bits binary32 (fin s m e) p.held)
    ∙ ap (of_bits binary32) (pattern s m e ∙ ap (λ (v : ℕ). written s v) u ∙ ap (λ (b : Bool). written b (units (fin t n d))) h ∙ sym (pattern t n d))
    ∙ of_bits-to_bits binary32 (fin t n d) q.held

pub rank_same : (x y : Float) → Number x → Number y → negative x ≡ negative y → rank x ≡ rank y → x ≡ y
unfolding rank
rank_same x y p q s e =
    units_same x y p q s
    (same_units (negative x) (units x) (units y) (in_top x p.held) (in_top y q.held) (e ∙ ap (λ (b : Bool). placed b (units y)) (sym s)))
