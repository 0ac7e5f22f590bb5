-- A float is within 100,000,000 exactly when its pattern without the sign is at most that of 100,000,000: larger patterns stand for larger sizes.
-- Assumes nothing.
use Prim.Native.Nat.{ℕ, zero, suc, ◌+◌, ◌-◌, ◌*◌, ◌/◌, ◌%◌, ◌^◌, ◌<◌, ◌≤◌}
use native.Mathlib.Nat.{mul-le-mul_right, le_of_mul-le-mul_right, mul_comm, mul-one, pow-suc, not-le_of_lt, le_trans, le_of_eq, mod-lt, mod-eq_of_lt, div-add-mod', add-mul-mod_self_left}
use native.Mathlib.Omega.{arith}
use mathlib.Core.Path.{◌≡◌, refl, sym, ap, ◌∙◌}
use mathlib.Core.Logic.{⊎_elim}
use mathlib.Core.Bool.{Bool, true, false, cond, true≢false}
use borrow.Author.Tests.{leb-true, le-leb, lt-leb, lt-ltb, le-ltb}
use lib.Dec.{leb, eqb, lit<}
use lib.Pow.{pow_mono, pow_pos}
use lib.Ieee.{Float, nan, inf, fin, Format, binary32, prec, low, hid, ones, up, down, odd, of_fields, le, lt, eq, of_bits}
use lib.Ieee.Exact.{HasValue}
use lib.Ieee.Bits.{is_true}
use lib.Ieee.Fits.{down_pos}
use lib.Ieee.Order.{le_of_values}
use Rattle.lists.proofs.Bools.{both_ways}
use Rattle.floats.specs.Floats.{f32, size_of, within}
use Rattle.floats.proofs.Values.{le_or_lt}
use Rattle.floats.proofs.Order.{within_size}
use Rattle.floats.proofs.Sizes.{true_is, le_of}
use Rattle.root.specs.Steps.{units_of}
use Rattle.root.proofs.Patterns.{bits_value}
use Rattle.corners.specs.Corners.{farthest}
use Rattle.words.proofs.WordLaws.{pattern_nan}

-- ---- sizes in units of 2 ^ -149

less : (n R Q : ℕ) → n < 2 ^ 24 → 2 * R ≤ Q → n * R ≤ 12500000 * Q
less n R Q h g = let m : n ≤ 16777216 = omega arith in omega (arith, mul-le-mul_right R m)

more : (n R Q : ℕ) → 2 ^ 23 ≤ n → 2 * Q ≤ R → 0 < Q → 12500000 * Q < n * R
more n R Q h g p = omega (arith, mul-le-mul_right R h)

same : (n Q : ℕ) → 0 < Q → n * Q ≤ 12500000 * Q → n ≤ 12500000
same n Q p h = le_of_mul-le-mul_right h p

-- 100,000,000 in units
abbrev most : ℕ
most = 12500000 * 2 ^ 152

double : (n : ℕ) → 2 * 2 ^ n ≡ 2 ^ suc n
double n = mul_comm 2 (2 ^ n) ∙ sym (pow-suc 2 n)

-- n digits under an exponent q, which is 153 for 100,000,000
low_side : (n q : ℕ) → n < 2 ^ 24 → q < 153 → n * 2 ^ (q - 1) ≤ most
low_side n q h g = less n (2 ^ (q - 1)) (2 ^ 152) h (le_trans (le_of_eq (double (q - 1))) (pow_mono {i = suc (q - 1)} {j = 152} (omega arith)))

high_side : (n q : ℕ) → 2 ^ 23 ≤ n → 153 < q → most < n * 2 ^ (q - 1)
high_side n q h g =
    let on : 153 ≤ q - 1 = omega arith in
    more n (2 ^ (q - 1)) (2 ^ 152) h (le_trans (le_of_eq (double 152)) (pow_mono on)) (pow_pos 152)

level : (q : ℕ) → q ≡ 153 → 2 ^ (q - 1) ≡ 2 ^ 152
level q e = ap (λ (k : ℕ). 2 ^ (k - 1)) e

few : (c Q : ℕ) → c < 2 ^ 23 → 0 < Q → c ≤ 12500000 * Q
few c Q h p = omega arith

-- a pattern without a sign stands for at most that exactly when it is at most 0x4CBE_BC20
module _ (c : ℕ) where
  normal_small : 2 ^ 23 ≤ c → c ≤ 0x4CBE_BC20 → (2 ^ 23 + c % 2 ^ 23) * 2 ^ (c / 2 ^ 23 - 1) ≤ most
  normal_small g h =
      ⊎_elim
      (λ l.
      let at : c / 2 ^ 23 ≡ 153 = omega arith in
      let n : 2 ^ 23 + c % 2 ^ 23 ≤ 12500000 = omega arith in
      rw (level (c / 2 ^ 23) at) (mul-le-mul_right (2 ^ 152) n))
      (λ l. low_side (2 ^ 23 + c % 2 ^ 23) (c / 2 ^ 23) (omega arith) l)
      (le_or_lt 153 (c / 2 ^ 23))

  small_normal : 2 ^ 23 ≤ c → (2 ^ 23 + c % 2 ^ 23) * 2 ^ (c / 2 ^ 23 - 1) ≤ most → c ≤ 0x4CBE_BC20
  small_normal g h =
      ⊎_elim
      (λ l. ⊎_elim
      (λ m.
      let at : c / 2 ^ 23 ≡ 153 = omega arith in
      let n : 2 ^ 23 + c % 2 ^ 23 ≤ 12500000 = same (2 ^ 23 + c % 2 ^ 23) (2 ^ 152) (pow_pos 152) (rw (level (c / 2 ^ 23) at) at h) in
      omega arith)
      (λ m. absurd (not-le_of_lt (high_side (2 ^ 23 + c % 2 ^ 23) (c / 2 ^ 23) (omega arith) m) h))
      (le_or_lt (c / 2 ^ 23) 153))
      (λ l. omega arith)
      (le_or_lt 153 (c / 2 ^ 23))

  units_small : c ≤ 0x4CBE_BC20 → units_of c ≤ most
  units_small h =
      ⊎_elim (λ g. rw (le-ltb c (2 ^ 23) g) (normal_small g h)) (λ g. rw (lt-ltb c (2 ^ 23) g) (few c (2 ^ 152) g (pow_pos 152))) (le_or_lt (2 ^ 23) c)

  small_units : units_of c ≤ most → c ≤ 0x4CBE_BC20
  small_units h = ⊎_elim (λ g. small_normal g (rw (le-ltb c (2 ^ 23) g) at h)) (λ g. omega arith) (le_or_lt (2 ^ 23) c)

-- ---- the test

-- a float of so many units is at most 100,000,000 exactly when they are at most as many as 100,000,000 is
cancel : (a d u U : ℕ) → 0 < U → a * U ≡ u * d → a ≤ 100000000 * d → 0 < d → u ≤ 100000000 * U
cancel a d u U p e h q = le_of_mul-le-mul_right {m = u} {n = 100000000 * U} {k = d} (omega (arith, mul-le-mul_right U h)) q

le_units : (v : Float) (u : ℕ) → HasValue v false u (2 ^ 149) → le v farthest ≡ true → u ≤ most
unfolding le lt eq of_bits
le_units nan u h e = absurd h
le_units (inf s) u h e = absurd h
le_units (fin true m e) u h g = absurd (true≢false h.0)
le_units (fin false m e) u h g =
    let l = le_of (m * up e * 1) (100000000 * down e) (true_is _ g) in
    cancel (m * up e) (down e) u (2 ^ 149) (pow_pos 149) h.1 (omega arith) (down_pos e)

units_le : (v : Float) (u : ℕ) → HasValue v false u (2 ^ 149) → u ≤ most → le v farthest ≡ true
units_le v u h l =
    is_true _ (le_of_values v farthest u (2 ^ 149) 100000000 1 (pow_pos 149) (lit< tt) h (unfold of_bits in (refl, refl)) (rw (mul-one u) l))

-- ---- the sign

size_odd : (d : ℕ) (s : Bool) (q k l : ℕ) → size_of (odd d s q k l) ≡ odd d false q k l
unfolding odd
size_odd d s zero k l = refl
size_odd d s (suc q) k l = refl

size_cond : (b : Bool) (x y : Float) → size_of (cond b x y) ≡ cond b (size_of x) (size_of y)
size_cond true x y = refl
size_cond false x y = refl

size_fields : (f : Format) (s : Bool) (x t : ℕ) → size_of (of_fields f s x t) ≡ of_fields f false x t
unfolding of_fields
size_fields f s zero t = size_odd (prec f) s t 0 (low f)
size_fields f s (suc x) t =
    size_cond (eqb (suc x) (ones f)) _ _
    ∙ rw (size_cond (eqb t 0) (inf s) nan, size_odd (prec f) s (hid f + t) x (low f))

-- the size of a float has its pattern without the sign
size_pattern : (b : ℕ) → size_of (f32 b) ≡ f32 (b % 0x8000_0000)
unfolding of_bits
size_pattern b =
    let under : b % 0x8000_0000 < 0x8000_0000 = mod-lt b (lit< tt) in
    let digits : b % 0x8000_0000 % 0x80_0000 ≡ b % 0x80_0000 =
    sym (add-mul-mod_self_left (b % 0x8000_0000) 0x80_0000 (256 * (b / 0x8000_0000)))
    ∙ ap (λ (n : ℕ). n % 0x80_0000) (omega (arith, div-add-mod' b 0x8000_0000)) in
    size_fields binary32 (leb 0x8000_0000 b) (b % 0x8000_0000 / 0x80_0000) (b % 0x80_0000)
    ∙ rw (lt-leb 0x8000_0000 (b % 0x8000_0000) under, mod-eq_of_lt under, digits)

-- ---- a pattern without a sign

no_pattern : (c : ℕ) → 0x7f80_0000 ≤ c → leb c 0x4CBE_BC20 ≡ false
no_pattern c h = lt-leb c 0x4CBE_BC20 (omega arith)

nan_far : le nan farthest ≡ false
unfolding le lt eq
nan_far = refl

infinite_far : le (f32 0x7f80_0000) farthest ≡ false
unfolding le lt eq of_bits
infinite_far = refl

pattern_le : (c : ℕ) → c < 0x8000_0000 → leb c 0x4CBE_BC20 ≡ le (f32 c) farthest
pattern_le c h =
    ⊎_elim
    (λ g. ⊎_elim
    (λ k. let at : c ≡ 0x7f80_0000 = omega arith in rw at (sym infinite_far))
    (λ k. let is : of_bits binary32 c ≡ nan = pattern_nan c (rw (mod-eq_of_lt h) k) in rw (is, no_pattern c g) (sym nan_far))
    (le_or_lt c 0x7f80_0000))
    (λ g.
    let v = bits_value c g in
    both_ways (leb c 0x4CBE_BC20) (le (f32 c) farthest)
    (λ e. units_le (f32 c) (units_of c) v (units_small c (leb-true c 0x4CBE_BC20 e)))
    (λ e. le-leb c 0x4CBE_BC20 (small_units c (le_units (f32 c) (units_of c) v e))))
    (le_or_lt 0x7f80_0000 c)

-- A float is within 100,000,000 exactly when its pattern without the sign is at most that of 100,000,000.
pub pattern_within : (b : ℕ) → leb (b % 0x8000_0000) 0x4CBE_BC20 ≡ within farthest (f32 b)
pattern_within b =
    pattern_le (b % 0x8000_0000) (mod-lt b (lit< tt)) ∙ ap (λ (x : Float). le x farthest) (sym (size_pattern b)) ∙ sym (within_size farthest (f32 b))
