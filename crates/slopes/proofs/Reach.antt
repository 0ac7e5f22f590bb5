-- A vertex is at most 100,000,000 metres from the origin along each axis: cells lie from 0 to 65,535,000 metres, and t is from 0 to 1. Where the first cell
-- lies up to 34,000,000 the two lengths add up to less; beyond that the step to the second is short, or leads back.
-- Assumes nothing.
use Prim.Native.Nat.{ℕ, zero, suc, ◌+◌, ◌-◌, ◌*◌, ◌/◌, ◌^◌, ◌<◌, ◌≤◌, zero-le}
use native.Mathlib.Nat.{le_trans, le_of_eq, le_of_lt, zero-mul, mul-pos, zero-lt-suc, mul-le-mul, mul-le-mul_right, mul-mul-mul_comm}
use native.Mathlib.Omega.{arith}
use mathlib.Core.Path.{◌≡◌, refl, sym, ap, subst, ◌∙◌}
use mathlib.Core.Logic.{⊎_elim}
use mathlib.Core.Bool.{Bool, true, false, cond, true≢false, false≢true}
use borrow.Author.Tests.{lt-ltb, le-ltb, eqb-true}
use lib.Dec.{T, ltb, eqb, lit<, lit≤}
use lib.IntN.{ℤ, pos}
use lib.Ieee.{Float, nan, inf, fin, Format, binary32, up, down, low, emax, prec, odd, units, round, sum, add, sub, mul, neg, lt, le, eq, of_int, of_bits}
use lib.Ieee.Bits.{is_true}
use lib.Ieee.Fits.{up_pos, down_pos}
use lib.Ieee.Order.{le_of_values}
use Rattle.lists.proofs.Bools.{cases, and_first, and_second}
use Rattle.floats.specs.Floats.{f32, zero32, one32, thousand, size_of, is_finite, between, within, positive_to}
use Rattle.floats.proofs.Values.{le_or_lt}
use Rattle.floats.proofs.Order.{within_size}
use Rattle.floats.proofs.Sizes.{true_is, Small, Held, le_of, round_size, round_small, small_wider, mul_small, add_small}
use Rattle.ids.specs.Key.{x_of, y_of, z_of}
use Rattle.ids.proofs.KeyLaws.{coord_small}
use Rattle.bcc_utils.specs.Metres.{metres_of}
use Rattle.slopes.specs.Vertices.{part_of, place_of, vertex_of}
use Rattle.slopes.proofs.PartLaws.{part_between}

-- ---- with a sign: from 0 to b, and from -b to 0

abbrev Above : ℕ → Float → Type 0
Above b nan = ⊥
Above b (inf s) = ⊥
Above b (fin true m e) = ⊥
Above b (fin false m e) = m * up e ≤ b * down e

abbrev Below : ℕ → Float → Type 0
Below b nan = ⊥
Below b (inf s) = ⊥
Below b (fin true m e) = m * up e ≤ b * down e
Below b (fin false m e) = ⊥

above_small : (b : ℕ) (x : Float) → Above b x → Small b x
above_small b nan h = h
above_small b (inf s) h = h
above_small b (fin true m e) h = absurd h
above_small b (fin false m e) h = h

below_small : (b : ℕ) (x : Float) → Below b x → Small b x
below_small b nan h = h
below_small b (inf s) h = h
below_small b (fin true m e) h = h
below_small b (fin false m e) h = absurd h

small_above : (b : ℕ) (x : Float) → size_of x ≡ x → Small b x → Above b x
small_above b nan s h = h
small_above b (inf t) s h = h
small_above b (fin true m e) s h = absurd (let z : false ≡ true = cc in false≢true z)
small_above b (fin false m e) s h = h

small_below : (b : ℕ) (x : Float) → neg (size_of x) ≡ x → Small b x → Below b x
unfolding neg
small_below b nan s h = h
small_below b (inf t) s h = h
small_below b (fin true m e) s h = h
small_below b (fin false m e) s h = absurd (let z : true ≡ false = cc in true≢false z)

odd_neg : (d : ℕ) (q k l : ℕ) → neg (odd d false q k l) ≡ odd d true q k l
unfolding odd neg
odd_neg d zero k l = refl
odd_neg d (suc q) k l = refl

units_neg : (f : Format) (q k : ℕ) → neg (units f false q k) ≡ units f true q k
unfolding units neg
units_neg f q k =
    cases (λ (b : Bool).
    neg (cond b (odd (suc (prec f)) false q k (low f)) (inf false))
    ≡ cond b (odd (suc (prec f)) true q k (low f)) (inf true)) (ltb (q * 2 ^ k) (2 ^ (low f + suc (emax f))))
    (λ e. odd_neg (suc (prec f)) q k (low f))
    (λ e. refl)

round_neg : (f : Format) (a c : ℕ) → neg (round f false a c) ≡ round f true a c
unfolding round
round_neg f a c = units_neg f _ _

round_above : (a c b : ℕ) → Held b → 0 < c → a ≤ b * c → Above b (round binary32 false a c)
round_above a c b h C l = small_above b (round binary32 false a c) (round_size binary32 false a c) (round_small false a c b h C l)

round_below : (a c b : ℕ) → Held b → 0 < c → a ≤ b * c → Below b (round binary32 true a c)
round_below a c b h C l =
    small_below b (round binary32 true a c) (ap neg (round_size binary32 true a c) ∙ round_neg binary32 a c) (round_small true a c b h C l)

-- ---- products and sums by sign

product : (A B a b d e : ℕ) → A ≤ a * d → B ≤ b * e → A * B ≤ a * b * (d * e)
product A B a b d e p q = le_trans (mul-le-mul p q) (le_of_eq (mul-mul-mul_comm a d b e))

over : (A m d e : ℕ) → A ≤ m * d → A * e ≤ m * (d * e)
over A m d e p = omega (arith, mul-le-mul_right e p)

over' : (B m d e : ℕ) → B ≤ m * e → B * d ≤ m * (d * e)
over' B m d e q = omega (arith, mul-le-mul_right d q)

mul_above : (a b : ℕ) (x y : Float) → Held (a * b) → Above a x → Above b y → Above (a * b) (mul binary32 x y)
unfolding mul
mul_above a b nan y h p q = absurd p
mul_above a b (inf s) y h p q = absurd p
mul_above a b (fin true m e) y h p q = absurd p
mul_above a b (fin false m e) nan h p q = absurd q
mul_above a b (fin false m e) (inf t) h p q = absurd q
mul_above a b (fin false m e) (fin true n d) h p q = absurd q
mul_above a b (fin false m e) (fin false n d) h p q =
    round_above (m * up e * (n * up d)) (down e * down d) (a * b) h (mul-pos (down_pos e) (down_pos d))
    (product (m * up e) (n * up d) a b (down e) (down d) p q)

mul_below : (a b : ℕ) (x y : Float) → Held (a * b) → Above a x → Below b y → Below (a * b) (mul binary32 x y)
unfolding mul
mul_below a b nan y h p q = absurd p
mul_below a b (inf s) y h p q = absurd p
mul_below a b (fin true m e) y h p q = absurd p
mul_below a b (fin false m e) nan h p q = absurd q
mul_below a b (fin false m e) (inf t) h p q = absurd q
mul_below a b (fin false m e) (fin false n d) h p q = absurd q
mul_below a b (fin false m e) (fin true n d) h p q =
    round_below (m * up e * (n * up d)) (down e * down d) (a * b) h (mul-pos (down_pos e) (down_pos d))
    (product (m * up e) (n * up d) a b (down e) (down d) p q)

-- a sum of two signs is the larger part less the smaller
module _ (a b c : ℕ) where
  sum_down : a < b → sum binary32 false a true b c ≡ round binary32 true (b - a) c
  unfolding sum
  sum_down h = rw (lt-ltb a b h)

  sum_up : b ≤ a → sum binary32 false a true b c ≡ round binary32 false (a - b) c
  unfolding sum
  sum_up h = rw (le-ltb a b h)

  opposite : (m : ℕ) → Held m → 0 < c → a ≤ m * c → b ≤ m * c → Small m (sum binary32 false a true b c)
  opposite m h C p q =
      ⊎_elim
      (λ l. subst (Small m) (sym (sum_up l)) (round_small false (a - b) c m h C (omega arith)))
      (λ l. subst (Small m) (sym (sum_down l)) (round_small true (b - a) c m h C (omega arith)))
      (le_or_lt b a)

add_opposite : (m : ℕ) (x y : Float) → Held m → Above m x → Below m y → Small m (add binary32 x y)
unfolding add
add_opposite m nan y h p q = absurd p
add_opposite m (inf s) y h p q = absurd p
add_opposite m (fin true k e) y h p q = absurd p
add_opposite m (fin false k e) nan h p q = absurd q
add_opposite m (fin false k e) (inf t) h p q = absurd q
add_opposite m (fin false k e) (fin false n d) h p q = absurd q
add_opposite m (fin false k e) (fin true n d) h p q =
    opposite (k * up e * down d) (n * up d * down e) (down e * down d) m h (mul-pos (down_pos e) (down_pos d))
    (over (k * up e) m (down e) (down d) p) (over' (n * up d) m (down e) (down d) q)

-- ---- t, the voxel size and the cells

-- from 0 to 1; a zero may have either sign
abbrev Fraction : Float → Type 0
Fraction nan = ⊥
Fraction (inf s) = ⊥
Fraction (fin true m e) = m ≡ 0
Fraction (fin false m e) = m * up e ≤ 1 * down e

no_size : (m : ℕ) (e : ℤ) → 0 ≡ m * up e * 1 → m ≡ 0
no_size zero e h = refl
no_size (suc m) e h = let g : 0 < suc m * up e = mul-pos (zero-lt-suc m) (up_pos e) in absurd (omega arith)

minus_zero : (m : ℕ) (e : ℤ) → le zero32 (fin true m e) ≡ true → m ≡ 0
unfolding le lt eq of_bits
minus_zero m e h =
    no_size m e (sym (zero-mul (down e)) ∙ eqb-true (0 * down e) (m * up e * 1) (and_first (eqb (0 * down e) (m * up e * 1)) _ h))

up_to_one : (m : ℕ) (e : ℤ) → le (fin false m e) one32 ≡ true → m * up e ≤ 1 * down e
unfolding le lt eq of_bits
up_to_one m e h = let g = le_of (m * up e * 1) (1 * down e) (true_is _ h) in omega arith

fraction : (t : Float) → between zero32 one32 t ≡ true → Fraction t
fraction nan h = absurd (unfold le lt eq of_bits in false≢true h)
fraction (inf true) h = absurd (unfold le lt eq of_bits in false≢true h)
fraction (inf false) h = absurd (unfold le lt eq of_bits in false≢true h)
fraction (fin true m e) h = minus_zero m e (and_first (le zero32 (fin true m e)) (le (fin true m e) one32) h)
fraction (fin false m e) h = up_to_one m e (and_second (le zero32 (fin false m e)) (le (fin false m e) one32) h)

size_above : (s : Float) → positive_to thousand s ≡ true → Above 1000 s
unfolding le lt eq of_bits
size_above nan h = absurd (false≢true h)
size_above (inf true) h = absurd (false≢true h)
size_above (inf false) h = absurd (false≢true h)
size_above (fin true m e) h = absurd (false≢true h)
size_above (fin false m e) h = thousand_above m e (and_second (lt zero32 (fin false m e)) (le (fin false m e) thousand) h)
  where
    thousand_above : (m : ℕ) (e : ℤ) → le (fin false m e) thousand ≡ true → m * up e ≤ 1000 * down e
    thousand_above m e h = let g = le_of (m * up e * 1) (1000 * down e) (true_is _ h) in omega arith

-- 65,535,000, the farthest cell at the largest voxel size
held_farthest : Held 65535000
held_farthest = record { q = 16383750; j = 2; is = refl; digits = lit< tt; places = lit≤ tt }

cell_above : (x : ℕ) (size : Float) → x ≤ 65535 → positive_to thousand size ≡ true → Above 65535000 (metres_of x size).0
unfolding of_int
cell_above x size l h =
    mul_above 65535 1000 (of_int binary32 (pos x)) size held_farthest
    (round_above x 1 65535 (record { q = 65535; j = 0; is = refl; digits = lit< tt; places = lit≤ tt }) (lit< tt) (omega arith)) (size_above size h)

-- ---- a place between two cells

fraction_small : (t : Float) → Fraction t → Small 1 t
fraction_small nan f = f
fraction_small (inf s) f = f
fraction_small (fin true m e) f = rw (f, zero-mul (up e)) zero-le
fraction_small (fin false m e) f = f

-- back towards the origin
back : (p d t : Float) → Above 65535000 p → Below 65535000 d → Fraction t → Small 65535000 (add binary32 p (mul binary32 t d))
back p d nan a b f = absurd f
back p d (inf s) a b f = absurd f
back p d (fin true m e) a b f =
    add_small 65535000 0 p (mul binary32 (fin true m e) d) held_farthest (above_small 65535000 p a)
    (mul_small 0 65535000 (fin true m e) d (record { q = 0; j = 0; is = refl; digits = lit< tt; places = lit≤ tt }) (nothing m e f) (below_small 65535000 d b))
  where
    nothing : (m : ℕ) (e : ℤ) → m ≡ 0 → m * up e ≤ 0 * down e
    nothing m e f = rw (f, zero-mul (up e)) zero-le
back p d (fin false m e) a b f =
    add_opposite 65535000 p (mul binary32 (fin false m e) d) held_farthest a (mul_below 1 65535000 (fin false m e) d held_farthest f b)

-- a step onwards from beyond 34,000,000
shorter : (A a C c : ℕ) → 34000000 * a ≤ A → C ≤ 65535000 * c → C * a - A * c ≤ 31535000 * (c * a)
shorter A a C c h q = omega (arith, mul-le-mul_right c h, mul-le-mul_right a q)

no_more : (A B M : ℕ) → A ≤ M → A - B ≤ M
no_more A B M h = omega arith

module _ (m : ℕ) (e : ℤ) (n : ℕ) (d : ℤ) (p : m * up e ≤ 65535000 * down e) (q : n * up d ≤ 65535000 * down d) where
  abbrev step : Float
  step = sub binary32 (fin false n d) (fin false m e)

  step_is : step ≡ sum binary32 false (n * up d * down e) true (m * up e * down d) (down d * down e)
  unfolding sub
  step_is = refl

  step_small : Small 65535000 step
  step_small =
      subst (Small 65535000) (sym step_is)
      (opposite (n * up d * down e) (m * up e * down d) (down d * down e) 65535000 held_farthest (mul-pos (down_pos d) (down_pos e))
      (over (n * up d) 65535000 (down d) (down e) q) (over' (m * up e) 65535000 (down d) (down e) p))

  step_back : n * up d * down e < m * up e * down d → Below 65535000 step
  step_back h =
      subst (Below 65535000) (sym (step_is ∙ sum_down (n * up d * down e) (m * up e * down d) (down d * down e) h))
      (round_below (m * up e * down d - n * up d * down e) (down d * down e) 65535000 held_farthest (mul-pos (down_pos d) (down_pos e))
      (no_more (m * up e * down d) (n * up d * down e) (65535000 * (down d * down e)) (over' (m * up e) 65535000 (down d) (down e) p)))

  step_on : 34000000 * down e < m * up e → m * up e * down d ≤ n * up d * down e → Small 31535000 step
  step_on h g =
      subst (Small 31535000) (sym (step_is ∙ sum_up (n * up d * down e) (m * up e * down d) (down d * down e) g))
      (round_small false (n * up d * down e - m * up e * down d) (down d * down e) 31535000
      (record { q = 7883750; j = 2; is = refl; digits = lit< tt; places = lit≤ tt })
      (mul-pos (down_pos d) (down_pos e))
      (shorter (m * up e) (down e) (n * up d) (down d) (le_of_lt h) q))

  module _ (t : Float) (f : Fraction t) where
    abbrev end : Float
    end = add binary32 (fin false m e) (mul binary32 t step)

    near : m * up e ≤ 34000000 * down e → Small 100000000 end
    near h =
        small_wider 99535000 100000000 end
        (add_small 34000000 65535000 (fin false m e) (mul binary32 t step) (record { q = 12441875; j = 3; is = refl; digits = lit< tt; places = lit≤ tt }) h
        (mul_small 1 65535000 t step held_farthest (fraction_small t f) step_small))
        (lit≤ tt)

    onwards : 34000000 * down e < m * up e → m * up e * down d ≤ n * up d * down e → Small 100000000 end
    onwards h g =
        small_wider 97070000 100000000 end
        (add_small 65535000 31535000 (fin false m e) (mul binary32 t step) (record { q = 12133750; j = 3; is = refl; digits = lit< tt; places = lit≤ tt }) p
        (mul_small 1 31535000 t step (record { q = 7883750; j = 2; is = refl; digits = lit< tt; places = lit≤ tt }) (fraction_small t f) (step_on h g)))
        (lit≤ tt)

    backwards : n * up d * down e < m * up e * down d → Small 100000000 end
    backwards g = small_wider 65535000 100000000 end (back (fin false m e) step t p (step_back g) f) (lit≤ tt)

    reached : Small 100000000 end
    reached =
        ⊎_elim near (λ h. ⊎_elim (onwards h) backwards (le_or_lt (m * up e * down d) (n * up d * down e))) (le_or_lt (m * up e) (34000000 * down e))

reach : (a b t : Float) → Above 65535000 a → Above 65535000 b → Fraction t → Small 100000000 (add binary32 a (mul binary32 t (sub binary32 b a)))
reach nan b t p q f = absurd p
reach (inf s) b t p q f = absurd p
reach (fin true m e) b t p q f = absurd p
reach (fin false m e) nan t p q f = absurd q
reach (fin false m e) (inf s) t p q f = absurd q
reach (fin false m e) (fin true n d) t p q f = absurd q
reach (fin false m e) (fin false n d) t p q f = reached m e n d p q t f

-- ---- a vertex

-- 100,000,000
abbrev pub hundred_million : Float
hundred_million = f32 0x4CBE_BC20

small_within : (x : Float) → Small 100000000 x → within hundred_million x ≡ true
small_within nan h = absurd h
small_within (inf s) h = absurd h
small_within (fin s m e) h = within_size hundred_million (fin s m e) ∙ is_true _ (at_most m e h)
  where
    at_most : (m : ℕ) (e : ℤ) → m * up e ≤ 100000000 * down e → T (le (fin false m e) hundred_million)
    at_most m e h =
        le_of_values (fin false m e) hundred_million (m * up e) (down e) 100000000 1 (down_pos e) (lit< tt) (refl, refl)
        (unfold of_bits in (refl, refl)) (omega arith)

module _ (size : Float) (s : positive_to thousand size ≡ true) (k1 : ℕ) (d1 : Float) (k2 : ℕ) (d2 : Float) (f : is_finite d1 ≡ true) where
  axis : (a b : ℕ) → a < 65536 → b < 65536 → within hundred_million (place_of (part_of d1 d2) (metres_of a size) (metres_of b size)).0 ≡ true
  axis a b p q =
      small_within _
      (reach (metres_of a size).0 (metres_of b size).0 (part_of d1 d2) (cell_above a size (omega arith) s)
      (cell_above b size (omega arith) s) (fraction (part_of d1 d2) (part_between d1 d2 f)))

  -- at an accepted voxel size, and between finite distances, a vertex is finite and within 100,000,000
  pub vertex_within : (within hundred_million (vertex_of size k1 d1 k2 d2).x.0 ≡ true)
      × (within hundred_million (vertex_of size k1 d1 k2 d2).y.0 ≡ true)
      × (within hundred_million (vertex_of size k1 d1 k2 d2).z.0 ≡ true)
  unfolding vertex_of
  vertex_within = (
    axis (x_of k1) (x_of k2) (coord_small k1) (coord_small k2),
    axis (y_of k1) (y_of k2) (coord_small (k1 / 2)) (coord_small (k2 / 2)),
    axis (z_of k1) (z_of k2) (coord_small (k1 / 4)) (coord_small (k2 / 4)),
  )
