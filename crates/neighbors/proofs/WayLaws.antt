-- The way between two coordinates is one difference under a mask: where ones stand between the bits of an axis, a borrow passes them. So adjacency is
-- known without decoding.
-- Assumes nothing.
use mathlib.Core.Path.{◌≡◌, refl, sym, ap, ◌∙◌}
use mathlib.Core.Bool.{Bool, true, ◌&&◌, ◌||◌, true≢false}
use mathlib.Core.Logic.{⊎_elim}
use Prim.Native.Nat.{ℕ, zero, suc, ◌+◌, ◌-◌, ◌*◌, ◌/◌, ◌%◌, ◌^◌, ◌<◌}
use native.Mathlib.Nat.{pow-succ'}
use native.Mathlib.Omega.{arith}
use borrow.Author.Tests.{eq-eqb, eqb-true}
use lib.Bits.{bit_and}
use lib.Dec.{eqb}
use Rattle.ids.specs.Morton.{respaced, spread}
use Rattle.ids.specs.Key.{head_of, x_of, y_of, z_of}
use Rattle.ids.proofs.MaskLaws.{mask, and_keep}
use Rattle.ids.proofs.MortonLaws.{spread_low}
use Rattle.ids.proofs.KeyLaws.{coord_small}
use Rattle.lists.proofs.Bools.{cases, or_cases, both_ways}
use Rattle.neighbors.specs.Neighbors.{apart, one_step, adjacent}
use Rattle.neighbors.specs.Steps.{way_along, by_one, by_two, step_by}
use Rattle.neighbors.proofs.StepLaws.{between, carried}

-- two numbers that fill n bits, spread with the ones between them, fill all of the bits
filled : (n x y : ℕ) → x + y + 1 ≡ 2 ^ n → spread n x + between n + spread n y + 1 ≡ 8 ^ n
unfolding respaced between
filled zero x y e = refl
filled (suc n) x y e =
    let p = pow-succ' 2 n in
    omega (arith, pow-succ' 8 n, filled n (x / 2) (y / 2) (omega arith))

-- the difference under the mask
pub way : (x y : ℕ) → y < 65536 → bit_and (spread 17 x + (0x8_0000_0000_0000 - spread 17 y)) 0x1_2492_4924_9249 ≡ way_along x y
unfolding mask
way x y l =
    let f : spread 17 y + between 17 + spread 17 (131071 - y) + 1 ≡ 8 ^ 17 = filled 17 y (131071 - y) (omega arith) in
    let e : spread 17 x + (0x8_0000_0000_0000 - spread 17 y) ≡ spread 17 x + between 17 + spread 17 (131071 - y) + 1 = omega arith in
    and_keep 1 2 17 (spread 17 x + (0x8_0000_0000_0000 - spread 17 y)) ∙ rw (e, carried 17 x (131071 - y) 1 (omega arith))

-- numbers of n bits that are spread to the same are the same
same_spread : (n x y : ℕ) → x < 2 ^ n → y < 2 ^ n → spread n x ≡ spread n y → x ≡ y
unfolding respaced
same_spread zero x y lx ly e = omega arith
same_spread (suc n) x y lx ly e =
    let p = pow-succ' 2 n in
    let h : x / 2 ≡ y / 2 = same_spread n (x / 2) (y / 2) (omega arith) (omega arith) (omega arith) in
    omega arith

-- a number is one of two exactly when another is a third
either : (w p q n m : ℕ) → (w ≡ p → n ≡ m) → (w ≡ q → n ≡ m) → (n ≡ m → (w ≡ p → ⊥) → w ≡ q) → (eqb w p || eqb w q) ≡ eqb n m
either w p q n m f g h =
    both_ways _ _ (λ e. ⊎_elim (λ i. eq-eqb n m (f (eqb-true w p i))) (λ i. eq-eqb n m (g (eqb-true w q i))) (or_cases _ _ e)) (λ e. back (eqb-true n m e))
  where
    back : n ≡ m → (eqb w p || eqb w q) ≡ true
    back e =
        cases (λ (b : Bool). (b || eqb w q) ≡ true) (eqb w p) (λ i. refl)
        (λ i. eq-eqb w q (h e (λ s. true≢false (sym (eq-eqb w p s) ∙ i))))

module _ (x y : ℕ) (lx : x < 65536) (ly : y < 65536) where
  abbrev difference : ℕ
  difference = (x + (131071 - y) + 1) % 131072

  -- the way is that of the difference, a negative one counted from 2 ^ 17 down
  spread_way : way_along x y ≡ spread 17 difference
  spread_way =
      let v = x + (131071 - y) + 1 in
      let e : v ≡ v % 131072 + 2 ^ 17 * (v / 131072) = omega arith in
      ap (spread 17) e ∙ spread_low 17 (v % 131072) (v / 131072)

  is_way : (w c : ℕ) → c ≡ spread 17 w → w < 131072 → eqb (way_along x y) c ≡ eqb difference w
  is_way w c e l =
      both_ways _ _ (λ i. eq-eqb difference w (same_spread 17 difference w (omega arith) l (sym spread_way ∙ eqb-true _ _ i ∙ e)))
      (λ i. eq-eqb _ _ (spread_way ∙ ap (spread 17) (eqb-true difference w i) ∙ sym e))

  none : eqb (way_along x y) 0 ≡ eqb (apart x y) 0
  unfolding respaced
  none =
      is_way 0 0 refl (omega arith)
      ∙ both_ways _ _ (λ i. let h = eqb-true difference 0 i in eq-eqb (apart x y) 0 (omega arith))
      (λ i. let h = eqb-true (apart x y) 0 i in eq-eqb difference 0 (omega arith))

  one : by_one (way_along x y) ≡ eqb (apart x y) 1
  unfolding respaced
  one =
      rw (is_way 1 1 refl (omega arith), is_way 131071 0x1_2492_4924_9249 refl (omega arith))
      (either difference 1 131071 (apart x y) 1 (λ h. omega arith) (λ h. omega arith) (λ h k. omega arith))

  two : by_two (way_along x y) ≡ eqb (apart x y) 2
  unfolding respaced
  two =
      rw (is_way 2 8 refl (omega arith), is_way 131070 0x1_2492_4924_9248 refl (omega arith))
      (either difference 2 131070 (apart x y) 2 (λ h. omega arith) (λ h. omega arith) (λ h k. omega arith))

-- the test of three ways is that of the distances of the coordinates
pub adjacent_by :
    (a b : ℕ)
    → (eqb (head_of a) (head_of b) && step_by (way_along (x_of a) (x_of b)) (way_along (y_of a) (y_of b)) (way_along (z_of a) (z_of b))) ≡ adjacent a b
unfolding adjacent one_step step_by
adjacent_by a b =
    let ax = coord_small a in
    let ay = coord_small (a / 2) in
    let az = coord_small (a / 4) in
    let bx = coord_small b in
    let by = coord_small (b / 2) in
    let bz = coord_small (b / 4) in
    rw (
      one (x_of a) (x_of b) ax bx,
      one (y_of a) (y_of b) ay by,
      one (z_of a) (z_of b) az bz,
      two (x_of a) (x_of b) ax bx,
      two (y_of a) (y_of b) ay by,
      two (z_of a) (z_of b) az bz,
      none (x_of a) (x_of b) ax bx,
      none (y_of a) (y_of b) ay by,
      none (z_of a) (z_of b) az bz,
    )
