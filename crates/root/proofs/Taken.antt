-- What is known of a value that `root_taken` takes, and of its root. Assumes nothing.
use Rattle.std.proofs.Common.{◌≡◌, ℕ, zero, suc, ◌+◌, ◌*◌, ◌/◌, ◌^◌, ◌<◌, ◌≤◌, Bool, true, false, cond, T, ltb, ℤ, sym, refl, ap, ◌∙◌, inl, inr, true≢false, eq-zero-or-pos, ne_of_gt, zero-mul, not-le_of_lt, ne_eqb}
use lib.Ieee.{Float, nan, inf, fin, binary32, up, down, odd, units, round, le, lt, eq, fits, is_nan, of_bits, to_bits}
use lib.Ieee.Order.{kept, drop}
use lib.Ieee.Fits.{round_is, round-fits}
use lib.Ieee.Bits.{of_bits-to_bits}
use Rattle.floats.specs.Floats.{zero32}
use Rattle.floats.proofs.Values.{finite_below}
use Rattle.floats.proofs.Signs.{above_zero, no_zero}
use Rattle.root.specs.Root.{isqrt, rounded, root_of}

-- ---- a zero is its own root, and nothing else equals it
zero_no : (s : Bool) (m : ℕ) (e : ℤ) → eq zero32 (fin s (suc m) e) ≡ false
unfolding eq of_bits
zero_no s m e = rw (ne_eqb (0 * down e) (suc m * up e * 1) (λ (q : 0 * down e ≡ suc m * up e * 1). ne_of_gt (above_zero m e) (sym q ∙ zero-mul (down e))))

pub zero_root : (x : Float) → eq x zero32 ≡ true → x ≡ root_of x
unfolding root_of
zero_root nan h = refl
zero_root (inf s) h = refl
zero_root (fin s zero e) h = refl
zero_root (fin s (suc m) e) h = absurd (true≢false (sym h ∙ no_zero s m e))

-- ---- what is taken

-- its pattern is 0 only at zero
pub pattern_pos : (x : Float) → T (fits binary32 x) → eq x zero32 ≡ false → 0 < to_bits binary32 x
pattern_pos x f h = elim (eq-zero-or-pos (to_bits binary32 x)) [
  | inl z ↦ absurd (true≢false (sym zero_same ∙ ap (λ (v : Float). eq v zero32) (ap (of_bits binary32) (sym z) ∙ of_bits-to_bits binary32 x f) ∙ h))
  | inr g ↦ g
]
  where
    zero_same : eq zero32 zero32 ≡ true
    zero_same = unfold eq of_bits in refl

below_refused : (m : ℕ) (e : ℤ) → le zero32 (fin true (suc m) e) ≡ false
unfolding le lt of_bits
below_refused m e = zero_no true m e

-- and from there on a value is its own root
pub infinite_root : (x : Float) → T (fits binary32 x) → le zero32 x ≡ true → 0x7f80_0000 ≤ to_bits binary32 x → x ≡ root_of x
unfolding root_of
infinite_root nan f t h = refl
infinite_root (inf s) f t h = refl
infinite_root (fin s zero e) f t h = refl
infinite_root (fin true (suc m) e) f t h = absurd (true≢false (sym t ∙ below_refused m e))
infinite_root (fin false (suc m) e) f t h = absurd (not-le_of_lt (finite_below (suc m) e f) h)

-- ---- the root
rounded_fits : (n : ℕ) → T (fits binary32 (rounded n))
unfolding rounded
rounded_fits n = round-fits binary32 false (2 * isqrt n + cond (ltb (isqrt n * isqrt n) n) 1 0) (2 ^ 150)

pub root_fits : (x : Float) → T (fits binary32 x) → T (fits binary32 (root_of x))
unfolding root_of
root_fits nan f = f
root_fits (inf s) f = f
root_fits (fin s zero e) f = f
root_fits (fin s (suc m) e) f = rounded_fits (suc m * up e * 2 ^ 298 / down e)

units_number : (s : Bool) (q k : ℕ) → is_nan (units binary32 s q k) ≡ false
unfolding is_nan units odd
units_number s q k = go (ltb (q * 2 ^ k) (2 ^ 277)) q
  where
    go : (b : Bool) (q : ℕ) → is_nan (cond b (odd 25 s q k 149) (inf s)) ≡ false
    go true zero = refl
    go true (suc q) = refl
    go false q = refl

round_number : (a c : ℕ) → is_nan (round binary32 false a c) ≡ false
round_number a c = ap is_nan (round_is binary32 false a c) ∙ units_number false (kept 24 (a * 2 ^ 149) c) (drop 24 (a * 2 ^ 149) c)

rounded_number : (n : ℕ) → is_nan (rounded n) ≡ false
unfolding rounded
rounded_number n = round_number (2 * isqrt n + cond (ltb (isqrt n * isqrt n) n) 1 0) (2 ^ 150)

pub root_number : (x : Float) → is_nan x ≡ false → is_nan (root_of x) ≡ false
unfolding root_of
root_number nan h = h
root_number (inf s) h = h
root_number (fin s zero e) h = h
root_number (fin s (suc m) e) h = rounded_number (suc m * up e * 2 ^ 298 / down e)
