-- A step along an axis is one sum under a mask: where ones stand between the bits of an axis, a carry passes them. So
-- what is reached is known without decoding.
-- Assumes nothing.
use Rattle.std.specs.Prelude.{Some, None}
use mathlib.Core.Path.{◌≡◌, refl, sym, ◌∙◌}
use mathlib.Core.Bool.{Bool, true, false, cond, ◌&&◌}
use mathlib.Core.List.{List, [], ◌∷◌, map}
use Prim.Native.Nat.{ℕ, zero, suc, ◌+◌, ◌*◌, ◌/◌, ◌%◌, ◌^◌, ◌<◌, ◌≤◌}
use native.Mathlib.Nat.{le_of_suc-le-suc, not-suc-le-zero}
use native.Mathlib.Omega.{arith}
use borrow.Author.Tests.{lt-ltb, le-ltb, leb-true, leb-false, ltb-true, ltb-false}
use lib.Bits.{bit_and}
use lib.Dec.{T, leb, ltb, leb→le}
use lib.ListN.{length, get_or, replicate}
use Rattle.ids.specs.Morton.{respaced, spread, gather, morton}
use Rattle.ids.specs.Key.{key_of, head_of, x_of, y_of, z_of}
use Rattle.ids.proofs.MaskLaws.{keep, mask, and_keep}
use Rattle.ids.proofs.MortonLaws.{respaced_more, spread_low, morton_spread, morton_small}
use Rattle.ids.proofs.KeyLaws.{coord_small}
use Rattle.lists.proofs.Table.{every, below}
use Rattle.neighbors.specs.Neighbors.{Offset, offsets, offset_at, in_box, move_to, reached_from, reached}
use Rattle.neighbors.proofs.NeighborLaws.{fourteen}
use Rattle.neighbors.specs.Steps.{moved, join_of, low_of, cell_of}

-- the ones between n bits that stand three apart
unfoldable pub between : ℕ → ℕ
between zero = 0
between (suc n) = 6 + 8 * between n

-- a carry passes them: the sum of two spread numbers, under the mask, is the spread sum
pub carried : (n x y c : ℕ) → c ≤ 1 → keep 2 8 n (spread n x + between n + spread n y + c) ≡ spread n (x + y + c)
unfolding keep respaced between
carried zero x y c l = refl
carried (suc n) x y c l =
    let k = (x % 2 + y % 2 + c) / 2 in
    let s = spread n (x / 2) in
    let t = spread n (y / 2) in
    let v = (x % 2 + 8 * s) + (6 + 8 * between n) + (y % 2 + 8 * t) + c in
    let d : v / 8 ≡ s + between n + t + k = omega arith in
    let e : (x + y + c) / 2 ≡ x / 2 + y / 2 + k = omega arith in
    let m : v % 2 ≡ (x + y + c) % 2 = omega arith in
    rw (m, d, e, carried n (x / 2) (y / 2) k (omega arith))

-- what the mask keeps of a number is its gathered bits, spread
pub kept : (n m : ℕ) → keep 2 8 n m ≡ spread n (gather n m)
unfolding keep respaced
kept zero m = refl
kept (suc n) m =
    let g = m % 2 + 2 * gather n (m / 8) in
    let h : g / 2 ≡ gather n (m / 8) = omega arith in
    let o : g % 2 ≡ m % 2 = omega arith in
    rw (o, h, kept n (m / 8))

-- a coordinate of a key, spread over one bit more
spread_wider : (x : ℕ) → x < 65536 → spread 16 x ≡ spread 17 x
unfolding respaced
spread_wider x l =
    let a : spread 17 x ≡ spread 16 x + 8 ^ 16 * spread 1 (x / 65536) = respaced_more 2 8 16 1 x in
    let z : x / 65536 ≡ 0 = omega arith in
    rw (a, z) (omega arith)

-- where an axis stands
pub stay_along : (m : ℕ) → bit_and m 0x249249249249 ≡ spread 17 (gather 16 m)
unfolding mask
stay_along m = and_keep 1 2 16 m ∙ kept 16 m ∙ spread_wider (gather 16 m) (coord_small m)

-- a step of none
pub moved_stay : (x : ℕ) → spread 17 x ≡ spread 17 (x + 131072)
moved_stay x = sym (spread_low 17 x 1)

-- a sum along the axis
pub add_along : (x y k : ℕ) → k ≡ between 17 + spread 17 y → bit_and (spread 17 x + k) 0x1249249249249 ≡ spread 17 (x + y)
unfolding mask
add_along x y k e =
    let a : spread 17 x + k ≡ spread 17 x + between 17 + spread 17 y + 0 = omega arith in
    let z : x + y + 0 ≡ x + y = omega arith in
    and_keep 1 2 17 (spread 17 x + k) ∙ rw (a, carried 17 x y 0 (omega arith), z)

-- what is added for each step: the step over 17 bits, and the ones between
pub sums :
    (0x7fffffffffffe ≡ between 17 + spread 17 131070) × (0x7ffffffffffff ≡ between 17 + spread 17 131071)
    × (0x6db6db6db6db7 ≡ between 17 + spread 17 131073) × (0x6db6db6db6dbe ≡ between 17 + spread 17 131074)
unfolding between respaced
sums = (refl, refl, refl, refl)

-- within the border the 17th bit is clear, past it it is set
abbrev Fate : ℕ → ℕ → Bool → Type 0
Fate x d true = moved x d ≡ spread 16 (move_to x d)
Fate x d false = 2 ^ 48 ≤ moved x d

module _ (x d : ℕ) (l : x < 65536) (s : d ≤ 4) where
  split17 : moved x d ≡ spread 16 (x + (d + 131070)) + 8 ^ 16 * ((x + (d + 131070)) / 65536 % 2)
  unfolding respaced
  split17 =
      let a : moved x d ≡ spread 16 (x + (d + 131070)) + 8 ^ 16 * spread 1 ((x + (d + 131070)) / 65536) = respaced_more 2 8 16 1 (x + (d + 131070)) in
      omega arith

  -- what a test says of it
  fate : (p q : Bool) → leb 2 (x + d) ≡ p → ltb (x + d) 65538 ≡ q → Fate x d (p && q)
  fate false q e f =
      let low : x + d < 2 = leb-false _ _ e in
      let b : (x + (d + 131070)) / 65536 ≡ 1 = omega arith in
      omega (arith, split17)
  fate true false e f =
      let low : 65538 ≤ x + d = ltb-false _ _ f in
      let b : (x + (d + 131070)) / 65536 ≡ 3 = omega arith in
      omega (arith, split17)
  fate true true e f =
      let low : 2 ≤ x + d = leb-true _ _ e in
      let high : x + d < 65538 = ltb-true _ _ f in
      let m : x + (d + 131070) ≡ move_to x d + 2 ^ 16 * 2 = omega arith in
      let t : spread 16 (x + (d + 131070)) ≡ spread 16 (move_to x d) = rw m (spread_low 16 (move_to x d) 2) in
      let b : (x + (d + 131070)) / 65536 ≡ 2 = omega arith in
      omega (arith, split17)

  fate_inside : Fate x d (in_box x d)
  unfolding in_box
  fate_inside = fate (leb 2 (x + d)) (ltb (x + d) 65538) refl refl

-- the cell of a lower part, inside and outside
low_inside : (k low : ℕ) → low < 2 ^ 48 → cell_of k low ≡ Some (head_of k * 2 ^ 48 + low)
unfolding cell_of
low_inside k low l = rw (lt-ltb low (2 ^ 48) l)

low_outside : (k low : ℕ) → 2 ^ 48 ≤ low → cell_of k low ≡ None
unfolding cell_of
low_outside k low l = rw (le-ltb low (2 ^ 48) l)

-- the cell that an offset leads to, test by test
module _ (k x y z : ℕ) (o : Offset) where
  abbrev whole : ℕ
  whole = join_of (moved x o.0) (moved y o.1) (moved z o.2)

  cell_by : (p q r : Bool) → Fate x o.0 p → Fate y o.1 q → Fate z o.2 r
      → cell_of k whole ≡ cond (p && (q && r)) (Some (key_of (head_of k) (move_to x o.0) (move_to y o.1) (move_to z o.2))) None
  cell_by false q r f g h = low_outside k whole (omega arith)
  cell_by true false r f g h = low_outside k whole (omega arith)
  cell_by true true false f g h = low_outside k whole (omega arith)
  cell_by true true true f g h =
      let m = morton 16 (move_to x o.0) (move_to y o.1) (move_to z o.2) in
      let e : whole ≡ m = omega (arith, morton_spread 16 (move_to x o.0) (move_to y o.1) (move_to z o.2)) in
      rw e (low_inside k m (morton_small 16 (move_to x o.0) (move_to y o.1) (move_to z o.2)))

-- the steps of the 14 offsets are small
few : (axis : Offset → ℕ) → T (every (λ n x. leb (axis (offset_at n)) 4) 0 (replicate 14 0)) → (p : ℕ) → p < 14 → axis (offset_at p) ≤ 4
few axis t p l = leb→le _ _ (below (λ n. leb (axis (offset_at n)) 4) 14 t p l)

few_steps : (p : ℕ) → p < 14 → ((offset_at p).0 ≤ 4) × ((offset_at p).1 ≤ 4) × ((offset_at p).2 ≤ 4)
unfolding offsets
few_steps p l = (few (λ o. o.0) tt p l, few (λ o. o.1) tt p l, few (λ o. o.2) tt p l)

-- what stands at a place of a list of lower parts
part_at : (k : ℕ) (os : List Offset) (p : ℕ) → p < length os → get_or (map (low_of k) os) p 0 ≡ low_of k (get_or os p (0, 0, 0))
part_at k [] p l = absurd (not-suc-le-zero l)
part_at k (o ∷ os) zero l = refl
part_at k (o ∷ os) (suc p) l = part_at k os p (le_of_suc-le-suc l)

-- the cell that the offset at a place leads to
pub cell_reached : (k p : ℕ) → p < 14 → cell_of k (get_or (map (low_of k) offsets) p 0) ≡ reached k (offset_at p)
unfolding low_of reached_from
cell_reached k p l =
    let o = offset_at p in
    rw (part_at k offsets p (rw fourteen l))
    (cell_by k (x_of k) (y_of k) (z_of k) o (in_box (x_of k) o.0) (in_box (y_of k) o.1) (in_box (z_of k) o.2)
    (fate_inside (x_of k) o.0 (coord_small k) (few_steps p l).0)
    (fate_inside (y_of k) o.1 (coord_small (k / 2)) (few_steps p l).1)
    (fate_inside (z_of k) o.2 (coord_small (k / 4)) (few_steps p l).2))
