-- What rounding gives: a number, and how large a sum, a difference or a product can be. Rounding keeps the order, so a
-- result is at most b in size where the exact one is,
-- and b is a value of the format.
-- Assumes nothing.
use Rattle.std.proofs.Common.{◌≡◌, ℕ, zero, suc, ◌+◌, ◌-◌, ◌*◌, ◌^◌, ◌<◌, ◌≤◌, Bool, true, false, cond, ◌&&◌, ◌||◌, T, eqb, ltb, pos, sym, refl, ◌∙◌, subst, ⊎_elim, true≢false, le_trans, le_of_eq, lt_of_lt_of_le, mul-le-mul_right, mul_assoc, mul-le-mul, mul-pos, mul-one, mul_right_comm, le_of_mul-le-mul_right, arith, lit<, pow_mono, pow-add, shl_lt, le-ltb, ne_eqb}
use native.Mathlib.Nat.{mul-mul-mul_comm}
use mathlib.Core.Bool.{beq, false≢true}
use lib.Ieee.{Float, nan, inf, fin, Format, binary32, unlike, up, down, low, emax, prec, odd, units, round, sum, add, sub, mul, neg, lt, le, eq, is_nan, of_int}
use lib.Ieee.Exact.{HasValue, round_exact}
use lib.Ieee.Fits.{down_pos}
use lib.Ieee.Order.{round_mono}
use Rattle.lists.proofs.Bools.{cases}
use Rattle.floats.specs.Floats.{size_of, is_finite}
use Rattle.floats.proofs.Values.{le_or_lt}

-- the truth of a test
pub true_is : (b : Bool) → b ≡ true → T b
true_is b e = subst T (sym e) tt

-- x is finite and at most b in size
abbrev pub Small : ℕ → Float → Type 0
Small b nan = ⊥
Small b (inf s) = ⊥
Small b (fin s m e) = m * up e ≤ b * down e

-- b is a value of the format: q * 2 ^ j with 24 digits at most
pub record Held (b : ℕ) : Type 0 where
  pub q : ℕ
  pub j : ℕ
  pub is : b ≡ q * 2 ^ j
  pub digits : q < 2 ^ 24
  pub places : j ≤ 100

-- ---- rounding gives no NaN

odd_number : (d : ℕ) (s : Bool) (q k l : ℕ) → is_nan (odd d s q k l) ≡ false
unfolding is_nan odd
odd_number d s zero k l = refl
odd_number d s (suc q) k l = refl

units_number : (f : Format) (s : Bool) (q k : ℕ) → is_nan (units f s q k) ≡ false
unfolding is_nan units
units_number f s q k =
    cases (λ (b : Bool). is_nan (cond b (odd (suc (prec f)) s q k (low f)) (inf s)) ≡ false) (ltb (q * 2 ^ k) (2 ^ (low f + suc (emax f))))
    (λ e. odd_number (suc (prec f)) s q k (low f))
    (λ e. refl)

pub round_number : (f : Format) (s : Bool) (a c : ℕ) → is_nan (round f s a c) ≡ false
unfolding round
round_number f s a c = units_number f s _ _

-- ---- rounding keeps sizes

odd_size : (d : ℕ) (s : Bool) (q k l : ℕ) → size_of (odd d s q k l) ≡ odd d false q k l
unfolding odd
odd_size d s zero k l = refl
odd_size d s (suc q) k l = refl

units_size : (f : Format) (s : Bool) (q k : ℕ) → size_of (units f s q k) ≡ units f false q k
unfolding units
units_size f s q k =
    cases (λ (b : Bool).
    size_of (cond b (odd (suc (prec f)) s q k (low f)) (inf s))
    ≡ cond b (odd (suc (prec f)) false q k (low f)) (inf false)) (ltb (q * 2 ^ k) (2 ^ (low f + suc (emax f))))
    (λ e. odd_size (suc (prec f)) s q k (low f))
    (λ e. refl)

-- the sign does not tell in the size
pub round_size : (f : Format) (s : Bool) (a c : ℕ) → size_of (round f s a c) ≡ round f false a c
unfolding round
round_size f s a c = units_size f s _ _

shifted : (b q j l : ℕ) → b ≡ q * 2 ^ j → b * 2 ^ l ≡ q * 2 ^ (j + l) * 1
shifted b q j l e = rw (e, pow-add 2 j l, mul-one) (mul_assoc q (2 ^ j) (2 ^ l))

-- a number that the format holds is rounded to itself
held_exact : (b : ℕ) → Held b → HasValue (round binary32 false b 1) false b 1
held_exact b h =
    round_exact binary32 false b 1 h.q (h.j + 149) (lit< tt) h.digits
    (lt_of_lt_of_le (shl_lt 24 (h.j + 149) h.digits) (pow_mono (high h.j h.places)))
    (shifted b h.q h.j 149 h.is)
  where
    high : (j : ℕ) → j ≤ 100 → 24 + (j + 149) ≤ 149 + 128
    high j p = omega arith

pub le_of : (a b : ℕ) → T (ltb a b || (eqb a b && true)) → a ≤ b
le_of a b t =
    ⊎_elim (λ h. h) (λ h. absurd (rw (le-ltb a b (omega arith), ne_eqb a b (λ e. omega arith)) at t)) (le_or_lt a b)

-- what is not below 0 and not above a value b is small
under : (x y : Float) (b : ℕ) → size_of x ≡ x → HasValue y false b 1 → T (le x y) → Small b x
unfolding le lt eq
under nan y b s v h = absurd h
under (inf true) y b s v h = absurd (let z : false ≡ true = cc in false≢true z)
under (inf false) nan b s v h = absurd v
under (inf false) (inf t) b s v h = absurd v
under (inf false) (fin t n d) b s v h = absurd h
under (fin true m e) y b s v h = absurd (let z : false ≡ true = cc in false≢true z)
under (fin false m e) nan b s v h = absurd v
under (fin false m e) (inf t) b s v h = absurd v
under (fin false m e) (fin true n d) b s v h = absurd (true≢false v.0)
under (fin false m e) (fin false n d) b s v h =
    let g = le_of (m * up e * down d) (n * up d * down e) h in
    let w : n * up d ≡ b * down d = sym (mul-one (n * up d)) ∙ v.1 in
    le_of_mul-le-mul_right (le_trans g (le_of_eq (rw w (mul_right_comm b (down d) (down e))))) (down_pos d)

small_size : (b : ℕ) (x : Float) → Small b (size_of x) → Small b x
small_size b nan h = h
small_size b (inf s) h = h
small_size b (fin s m e) h = h

pub round_small : (s : Bool) (a c b : ℕ) → Held b → 0 < c → a ≤ b * c → Small b (round binary32 s a c)
round_small s a c b h C l =
    small_size b (round binary32 s a c)
    (subst (Small b) (sym (round_size binary32 s a c))
    (under (round binary32 false a c) (round binary32 false b 1) b (round_size binary32 false a c) (held_exact b h)
    (round_mono binary32 a c b 1 C (lit< tt) (rw mul-one l))))

-- ---- the operations

pub small_wider : (b b' : ℕ) (x : Float) → Small b x → b ≤ b' → Small b' x
small_wider b b' nan h l = h
small_wider b b' (inf s) h l = h
small_wider b b' (fin s m e) h l = le_trans h (mul-le-mul_right (down e) l)

pub small_neg : (b : ℕ) (x : Float) → Small b x → Small b (neg x)
unfolding neg
small_neg b nan h = h
small_neg b (inf s) h = h
small_neg b (fin s m e) h = h

pub mul_small : (a b : ℕ) (x y : Float) → Held (a * b) → Small a x → Small b y → Small (a * b) (mul binary32 x y)
unfolding mul
mul_small a b nan y h p q = absurd p
mul_small a b (inf s) y h p q = absurd p
mul_small a b (fin s m e) nan h p q = absurd q
mul_small a b (fin s m e) (inf t) h p q = absurd q
mul_small a b (fin s m e) (fin t n d) h p q =
    round_small (unlike s t) (m * up e * (n * up d)) (down e * down d) (a * b) h (mul-pos (down_pos e) (down_pos d))
    (le_trans (mul-le-mul p q) (le_of_eq (mul-mul-mul_comm a (down e) b (down d))))

-- a sum of two signs, by its parts over one denominator
sum_small : (s t : Bool) (a b c m : ℕ) → Held m → 0 < c → a + b ≤ m * c → Small m (sum binary32 s a t b c)
unfolding sum
sum_small s t a b c m h C l =
    cases (λ (u : Bool).
    Small m (cond u (round binary32 s (a + b) c)
    (cond (ltb a b) (round binary32 t (b - a) c) (round binary32 (s && ltb b a) (a - b) c)))) (beq s t)
    (λ e. round_small s (a + b) c m h C l)
    (λ e.
    cases (λ (u : Bool). Small m (cond u (round binary32 t (b - a) c) (round binary32 (s && ltb b a) (a - b) c))) (ltb a b)
    (λ g. round_small t (b - a) c m h C (omega arith))
    (λ g. round_small (s && ltb b a) (a - b) c m h C (omega arith)))

parts : (A B a b d e : ℕ) → A ≤ a * d → B ≤ b * e → A * e + B * d ≤ (a + b) * (d * e)
parts A B a b d e p q = omega (arith, mul-le-mul_right e p, mul-le-mul_right d q)

pub add_small : (a b : ℕ) (x y : Float) → Held (a + b) → Small a x → Small b y → Small (a + b) (add binary32 x y)
unfolding add
add_small a b nan y h p q = absurd p
add_small a b (inf s) y h p q = absurd p
add_small a b (fin s m e) nan h p q = absurd q
add_small a b (fin s m e) (inf t) h p q = absurd q
add_small a b (fin s m e) (fin t n d) h p q =
    sum_small s t (m * up e * down d) (n * up d * down e) (down e * down d) (a + b) h (mul-pos (down_pos e) (down_pos d))
    (parts (m * up e) (n * up d) a b (down e) (down d) p q)

pub sub_small : (a b : ℕ) (x y : Float) → Held (a + b) → Small a x → Small b y → Small (a + b) (sub binary32 x y)
unfolding sub
sub_small a b x y h p q = add_small a b x (neg y) h p (small_neg b y q)

pub of_int-small : (n b : ℕ) → Held b → n ≤ b → Small b (of_int binary32 (pos n))
unfolding of_int
of_int-small n b h l = round_small false n 1 b h (lit< tt) (rw mul-one l)

pub small_finite : (b : ℕ) (x : Float) → Small b x → is_finite x ≡ true
small_finite b nan h = absurd h
small_finite b (inf s) h = absurd h
small_finite b (fin s m e) h = refl
