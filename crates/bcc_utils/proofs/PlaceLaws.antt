-- What snapping a place in metres is known by: the exact condition of each refusal, and that a number of cells is a float
-- exactly. Rounding and snapping refuse with 9 alone, so 1 and 5 come from their tests. Assumes nothing.
use Rattle.std.specs.Prelude.{Ok, Err, Result}
use Prim.Native.Nat.{ℕ, ◌-◌, ◌^◌, ◌<◌}
use native.Mathlib.Omega.{arith}
use mathlib.Core.Path.{◌≡◌, refl, ap, ◌∙◌}
use mathlib.Core.Logic.{◌↔◌, ◌⊎◌, inl, inr}
use mathlib.Core.Bool.{Bool, true, false, cond}
use lib.Dec.{leb}
use lib.IntN.{ℤ, pos, neg_ℤ}
use lib.Ieee.{Float, nan, inf, fin, binary32, div, of_int}
use lib.Ieee.Exact.{HasValue}
use lib.Ieee.Back.{round_whole}
use Rattle.refusals.specs.declared.Refusal.{Refusal}
use Rattle.refusals.specs.declared.Refusal.TheVariants.{Setting, BadReading, OutOfRange}
use Rattle.floats.specs.Floats.{thousand, positive_to, pick_nearest, signed, halves_up, whole_of}
use Rattle.bcc_utils.specs.Snapping.{snapped}
use Rattle.bcc_utils.specs.Metres.{and_then, cells_of, place_snapped, is_place, voxel_of}
use Rattle.bcc_utils.proofs.SnapLaws.{snap_refused}
use Rattle.bcc_utils.specs.declared.WideCells.{WideCells}

-- A number of cells is a float exactly.
pub cells_exact : (cells : ℕ) → cells < 2 ^ 16 → HasValue (of_int binary32 (pos cells)) false cells 1
unfolding of_int
cells_exact cells h = round_whole binary32 false cells (omega arith)

-- ---- rounding refuses with 9 alone

picked : (t : Bool) (w : ℤ) (r : Refusal) → pick_nearest t (Ok w) (Err OutOfRange) ≡ Err r → r ≡ OutOfRange
picked true w r e = cc
picked false w r e = cc

signed_refuses : (s : Bool) (w : ℕ) (r : Refusal) → signed s w ≡ Err r → r ≡ OutOfRange
signed_refuses true w r h = picked (leb w (2 ^ 31)) (neg_ℤ (pos w)) r h
signed_refuses false w r h = picked (leb w (2 ^ 31 - 1)) (pos w) r h

rounding_refuses : (x : Float) (r : Refusal) → whole_of x ≡ Err r → r ≡ OutOfRange
unfolding whole_of
rounding_refuses nan r e = cc
rounding_refuses (inf s) r e = cc
rounding_refuses (fin s m e) r h = signed_refuses s (halves_up m e) r h

module _ (x y z size : Float) where
  -- Where the three cells are whole numbers of i32, they are snapped.
  pub place_inside : (a b c : ℤ)
      → cells_of x size ≡ Ok a
      → cells_of y size ≡ Ok b
      → cells_of z size ≡ Ok c
      → place_snapped x y z size ≡ snapped a b c
  unfolding place_snapped
  place_inside a b c p q r = rw (p, q, r)

  -- rounding one coordinate, and what follows, refuse with 9 alone
  step_refuses : (v : Float) (next : ℤ → Result (WideCells × WideCells × WideCells) Refusal) (r : Refusal)
      → ((w : ℤ) → next w ≡ Err r → r ≡ OutOfRange)
      → and_then (cells_of v size) next ≡ Err r
      → r ≡ OutOfRange
  step_refuses v next r h e = go (cells_of v size) refl e
    where
      go : (n : Result ℤ Refusal) → cells_of v size ≡ n → and_then n next ≡ Err r → r ≡ OutOfRange
      go (Ok w) p e = h w e
      go (Err s) p e = refusal_of e ∙ rounding_refuses (div binary32 v size) s p
        where
          refusal_of : ◌≡◌ {A = Result (WideCells × WideCells × WideCells) Refusal} (Err s) (Err r) → r ≡ s
          refusal_of e = cc

  pub place_refuses : (r : Refusal) → place_snapped x y z size ≡ Err r → r ≡ OutOfRange
  unfolding place_snapped
  place_refuses r e =
      step_refuses x _ r (λ a. step_refuses y _ r (λ b. step_refuses z _ r (λ c h. ((snap_refused a b c r).0 h).2))) e

  past : (v : Float) (next : ℤ → Result (WideCells × WideCells × WideCells) Refusal) → ((w : ℤ) → next w ≡ Err OutOfRange) → and_then (cells_of v size) next ≡ Err OutOfRange
  past v next h = go (cells_of v size) refl
    where
      go : (n : Result ℤ Refusal) → cells_of v size ≡ n → and_then n next ≡ Err OutOfRange
      go (Ok w) p = h w
      go (Err s) p = ap Err (rounding_refuses (div binary32 v size) s p)

  -- Where one of them is none, the place is refused with 9.
  pub place_outside : (cells_of x size ≡ Err OutOfRange)
      ⊎ ((cells_of y size ≡ Err OutOfRange) ⊎ (cells_of z size ≡ Err OutOfRange))
      → place_snapped x y z size ≡ Err OutOfRange
  unfolding place_snapped
  place_outside (inl p) = rw p
  place_outside (inr (inl p)) = past x _ (λ a. rw p)
  place_outside (inr (inr p)) = past x _ (λ a. past y _ (λ b. rw p))

  -- ---- each refusal's exact condition

  -- 1: the voxel size is not above 0 to 1,000
  pub voxel_refused_1 : (voxel_of x y z size ≡ Err Setting) ↔ (positive_to thousand size ≡ false)
  unfolding voxel_of
  voxel_refused_1 = (λ e. go (positive_to thousand size) (is_place x y z) e, λ h. rw h)
    where
      go : (a b : Bool) → cond a (cond b (place_snapped x y z size) (Err BadReading)) (Err Setting) ≡ Err Setting → a ≡ false
      go true true e = let h : Setting ≡ OutOfRange = place_refuses Setting e in cc
      go true false e = cc
      go false b e = refl

  -- 5: it is, and a coordinate is not finite
  pub voxel_refused_5 : (voxel_of x y z size ≡ Err BadReading) ↔ ((positive_to thousand size ≡ true) × (is_place x y z ≡ false))
  unfolding voxel_of
  voxel_refused_5 = (λ e. go (positive_to thousand size) (is_place x y z) e, λ h. rw (h.0, h.1))
    where
      go : (a b : Bool) → cond a (cond b (place_snapped x y z size) (Err BadReading)) (Err Setting) ≡ Err BadReading → (a ≡ true) × (b ≡ false)
      go true true e = let h : BadReading ≡ OutOfRange = place_refuses BadReading e in (cc, cc)
      go true false e = (refl, refl)
      go false b e = (cc, cc)

  -- 9: both are taken, and dividing, rounding or snapping leaves i32
  pub voxel_refused_9 : (voxel_of x y z size ≡ Err OutOfRange) ↔
      ((positive_to thousand size ≡ true) × (is_place x y z ≡ true) × (place_snapped x y z size ≡ Err OutOfRange))
  unfolding voxel_of
  voxel_refused_9 = (λ e. go (positive_to thousand size) (is_place x y z) e, λ h. rw (h.0, h.1, h.2))
    where
      go : (a b : Bool)
          → cond a (cond b (place_snapped x y z size) (Err BadReading)) (Err Setting) ≡ Err OutOfRange
          → (a ≡ true) × (b ≡ true) × (place_snapped x y z size ≡ Err OutOfRange)
      go true true e = (refl, refl, e)
      go true false e = (cc, cc, cc)
      go false b e = (cc, cc, cc)
