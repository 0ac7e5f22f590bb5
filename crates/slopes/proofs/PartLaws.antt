-- t of two finite distances is a number from 0 to 1: a finite number over one that is not 0 is no NaN, and the clamp does the rest.
-- Assumes nothing.
use Prim.Native.Nat.{ℕ, zero, suc, ◌*◌, zero-le}
use native.Mathlib.Nat.{zero-mul}
use mathlib.Core.Path.{◌≡◌, refl, sym, ◌∙◌}
use mathlib.Core.Bool.{Bool, true, false, cond, not, false≢true}
use native.Mathlib.Omega.{arith}
use borrow.Author.Tests.{le-ltb, ne_eqb}
use lib.IntN.{ℤ}
use lib.Ieee.{Float, nan, inf, fin, binary32, unlike, up, down, sub, div, neg, lt, le, eq, is_nan, of_bits}
use Rattle.lists.proofs.Bools.{cases, and_first}
use Rattle.floats.specs.Floats.{zero32, one32, size_of, is_finite, between}
use Rattle.floats.proofs.Clamped.{clamped}
use Rattle.floats.proofs.Order.{le_second}
use Rattle.floats.proofs.Sizes.{round_number}
use Rattle.slopes.specs.Vertices.{tiny, half, part_of}

-- ---- what is divided

lt_nan : (x : Float) → lt x nan ≡ false
unfolding lt
lt_nan nan = refl
lt_nan (inf s) = refl
lt_nan (fin s m e) = refl

nothing_below_zero : (m : ℕ) (x y : ℤ) → lt (fin false m x) (fin false zero y) ≡ false
unfolding lt
nothing_below_zero m x y = rw (zero-mul (up y), zero-mul (down x)) (le-ltb (m * up x * down y) 0 zero-le)

below_zero : (y : ℤ) → lt tiny (fin false zero y) ≡ false
unfolding of_bits
below_zero y = nothing_below_zero _ _ y

div_number : (d e : Float) → is_finite d ≡ true → lt tiny (size_of e) ≡ true → is_nan (div binary32 (neg d) e) ≡ false
unfolding div neg lt is_nan
div_number nan e p h = absurd (false≢true p)
div_number (inf s) e p h = absurd (false≢true p)
div_number (fin s m x) nan p h = absurd (false≢true (sym (lt_nan tiny) ∙ h))
div_number (fin s m x) (inf t) p h = refl
div_number (fin s m x) (fin t zero y) p h = absurd (false≢true (sym (below_zero y) ∙ h))
div_number (fin s m x) (fin t (suc n) y) p h =
    rw (ne_eqb (suc n) 0 (λ q. omega arith)) (round_number binary32 (unlike (not s) t) (m * up x * down y) (suc n * up y * down x))

half_number : is_nan half ≡ false
unfolding is_nan of_bits
half_number = refl

unclamped_number : (d e : Float) → is_finite d ≡ true → is_nan (cond (lt tiny (size_of e)) (div binary32 (neg d) e) half) ≡ false
unclamped_number d e p =
    cases (λ (b : Bool). is_nan (cond b (div binary32 (neg d) e) half) ≡ false) (lt tiny (size_of e)) (λ h. div_number d e p h) (λ h. half_number)

-- ---- t

zero_one : le zero32 one32 ≡ true
unfolding le lt eq of_bits
zero_one = refl

module _ (d1 d2 : Float) (p : is_finite d1 ≡ true) where
  pub part_between : between zero32 one32 (part_of d1 d2) ≡ true
  unfolding part_of
  part_between =
      clamped (cond (lt tiny (size_of (sub binary32 d2 d1))) (div binary32 (neg d1) (sub binary32 d2 d1)) half) zero32
      one32 (unclamped_number d1 (sub binary32 d2 d1) p) zero_one

  pub part_number : is_nan (part_of d1 d2) ≡ false
  part_number = le_second zero32 (part_of d1 d2) (and_first (le zero32 (part_of d1 d2)) (le (part_of d1 d2) one32) part_between)
