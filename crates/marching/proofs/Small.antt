-- What a stored neighbour says is smaller in size than the largest float: products, sums and signs of small floats are small, as rounding keeps order.
-- Assumes nothing.
use mathlib.Core.Path.{◌≡◌, refl}
use mathlib.Core.Logic.{⊎_elim}
use mathlib.Core.Bool.{Bool, true, false, cond, ◌&&◌, ◌||◌, false≢true}
use Prim.Native.Nat.{ℕ, ◌*◌, ◌≤◌, ◌<◌}
use native.Mathlib.Nat.{zero-mul, lt_of_le_of_lt, mul-lt-mul_of_pos_right}
use native.Mathlib.Omega.{arith}
use borrow.Author.Tests.{ltb-true, lt-ltb, eqb-true}
use lib.Dec.{ltb, eqb, lit<, lit≤}
use lib.Ieee.{Float, nan, inf, fin, up, down, lt, eq, le, add, mul, neg, of_bits, binary32}
use lib.Ieee.Fits.{down_pos}
use lib.Ieee.Positive.{through}
use Rattle.floats.proofs.Sizes.{Small, Held, mul_small, add_small}
use Rattle.floats.specs.Floats.{zero32, one32, thousand, million, largest, size_of}
use Rattle.lists.proofs.Bools.{and_first, and_second, or_cases}
use Rattle.marching.specs.March.{candidate}
use Rattle.marching.proofs.Least.{plain}

-- ---- order

cross : (a b : ℕ) (t : Bool) → ltb a b || (eqb a b && t) ≡ true → a ≤ b
cross a b t h =
    ⊎_elim (λ p. let q = ltb-true a b p in omega arith)
    (λ p. let q = eqb-true a b (and_first (eqb a b) t p) in omega arith) (or_cases (ltb a b) (eqb a b && t) h)

-- what is at most something small is small
pub small_below : (y z : Float) (a : ℕ) → plain y ≡ true → le y z ≡ true → Small a z → Small a y
unfolding le lt eq
small_below nan z a p h s = absurd (false≢true p)
small_below (inf true) z a p h s = absurd (false≢true p)
small_below (fin true n g) z a p h s = absurd (false≢true p)
small_below (inf false) nan a p h s = absurd s
small_below (inf false) (inf t) a p h s = absurd s
small_below (inf false) (fin t k d) a p h s = absurd (false≢true h)
small_below (fin false n g) nan a p h s = absurd s
small_below (fin false n g) (inf t) a p h s = absurd s
small_below (fin false n g) (fin false k d) a p h s =
    let c = cross (n * up g * down d) (k * up d * down g) _ h in
    let e = through (n * up g) (k * up d) a (down g) (down d) 1 (down_pos d) c (omega arith) in
    omega arith
small_below (fin false n g) (fin true k d) a p h s =
    let z : n * up g * down d ≡ 0 = eqb-true (n * up g * down d) 0 (and_second (eqb (n * up g * down d) (k * up d * down g)) (eqb (n * up g * down d) 0) h) in
    let c : n * up g * down d ≤ 0 * down g = omega (arith, zero-mul (down g)) in
    let e = through (n * up g) 0 a (down g) (down d) 1 (down_pos d) c (omega (arith, zero-mul 1)) in
    omega arith

-- 2, 1,000 and 1,000,000
pub small_million : Small 1000000 million
unfolding of_bits
small_million = lit≤ tt

pub small_thousand : Small 1000 thousand
unfolding of_bits
small_thousand = lit≤ tt

-- a maximum from 0 to 1,000,000, of either sign
pub small_most : (x : Float) → le zero32 x ≡ true → le x million ≡ true → Small 1000000 x
unfolding le lt eq of_bits
small_most nan h l = absurd (false≢true h)
small_most (inf true) h l = absurd (false≢true h)
small_most (inf false) h l = absurd (false≢true l)
small_most (fin false n g) h l = small_below (fin false n g) million 1000000 refl l small_million
small_most (fin true n g) h l =
    let y : 0 * down g ≡ n * up g * 1 = eqb-true (0 * down g) (n * up g * 1) (and_first _ _ h) in
    omega (arith, zero-mul (down g))

-- above zero has no sign
pub plain_positive : (x : Float) → lt zero32 x ≡ true → plain x ≡ true
unfolding lt of_bits
plain_positive nan h = absurd (false≢true h)
plain_positive (inf true) h = absurd (false≢true h)
plain_positive (inf false) h = refl
plain_positive (fin true n g) h = absurd (false≢true h)
plain_positive (fin false n g) h = refl

-- ---- the largest float

far : (x a g K : ℕ) → x ≤ a * g → a < K → 0 < g → x * 1 < K * g
far x a g K h l p =
    let i : x * 1 ≤ a * g = omega arith in
    lt_of_le_of_lt i (mul-lt-mul_of_pos_right l p)

below_largest : (z : Float) → plain z ≡ true → Small 1002000 z → lt z (size_of largest) ≡ true
unfolding lt of_bits
below_largest nan p s = absurd s
below_largest (inf t) p s = absurd s
below_largest (fin true n g) p s = absurd (false≢true p)
below_largest (fin false n g) p s = lt-ltb _ _ (far (n * up g) 1002000 (down g) _ s (lit< tt) (down_pos g))

size_plain : (x : Float) (a : ℕ) → Small a x → (plain (size_of x) ≡ true) × Small a (size_of x)
size_plain nan a s = absurd s
size_plain (inf t) a s = absurd s
size_plain (fin t n g) a s = (refl, s)

signed_one : (s : Bool) → Small 1 (cond s (neg one32) one32)
unfolding of_bits neg
signed_one true = lit≤ tt
signed_one false = lit≤ tt

-- what a neighbour at a distance of at most 1,000,000 in size says
pub said_small : (size l d : Float) → Small 1000 size → Small 2 l → Small 1000000 d → lt (size_of (candidate size l d)) (size_of largest) ≡ true
unfolding candidate
said_small size l nan s t r = absurd r
said_small size l (inf u) s t r = absurd r
said_small size l (fin u n g) s t r =
    let step = mul_small 2 1000 l size (record { q = 2000; j = 0; is = refl; digits = lit< tt; places = lit≤ tt }) t s in
    let held : Held 1002000 = record { q = 1002000; j = 0; is = refl; digits = lit< tt; places = lit≤ tt } in
    let far = add_small 1000000 2000 (fin false n g) (mul binary32 l size) held r step in
    let signed = mul_small 1 1002000 (cond u (neg one32) one32) (add binary32 (fin false n g) (mul binary32 l size)) held (signed_one u) far in
    let z = size_plain (candidate size l (fin u n g)) 1002000 signed in
    below_largest (size_of (candidate size l (fin u n g))) z.0 z.1

-- at most something small in size
pub small_within : (d most : Float) (a : ℕ) → le (size_of d) most ≡ true → Small a most → Small a d
unfolding le lt eq
small_within nan most a h s = absurd (false≢true h)
small_within (inf t) most a h s = absurd (small_below (inf false) most a refl h s)
small_within (fin t n g) most a h s = small_below (fin false n g) most a refl h s
