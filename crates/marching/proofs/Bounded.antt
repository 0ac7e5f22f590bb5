-- A settled distance is at most the maximum distance in size: what wins is no NaN, and it is clamped. Assumes nothing.
use Rattle.std.specs.Prelude.{None, Option, Some}
use mathlib.Core.Path.{◌≡◌, refl}
use mathlib.Core.Logic.{◌⊎◌, inl, inr}
use mathlib.Core.Bool.{Bool, true, false, cond, false≢true}
use mathlib.Core.List.{List, [], ◌∷◌}
use Prim.Native.Nat.{ℕ, suc}
use lib.Ieee.{Float, nan, inf, fin, lt, le, is_nan, of_bits}
use Rattle.floats.specs.Floats.{zero32, largest, size_of, within}
use Rattle.floats.proofs.Clamped.{clamped_within}
use Rattle.lists.specs.Lists.{◌∈◌, All}
use Rattle.lists.proofs.Bools.{cases}
use Rattle.lists.proofs.Inserting.{every, among}
use Rattle.marching.specs.March.{MarchedRow, Field, Rooms, distance_of, candidate, better, heard, settling, settled, march}
use Rattle.marching.proofs.Sound.{After}
use Rattle.marching.proofs.Rows.{march_rows}

-- only what is smaller than a number wins, which is no NaN
smaller_number : (x y : Float) → lt (size_of x) y ≡ true → is_nan x ≡ false
unfolding lt is_nan
smaller_number nan y h = absurd (false≢true h)
smaller_number (inf s) y h = refl
smaller_number (fin s m e) y h = refl

better_number : (best c : Float) → is_nan best ≡ false → is_nan (better best c) ≡ false
better_number best c h =
    cases (λ (b : Bool). is_nan (cond b c best) ≡ false) (lt (size_of c) (size_of best)) (λ e. smaller_number c (size_of best) e) (λ e. h)

heard_number : (size l best : Float) (d : Option Float) → is_nan best ≡ false → is_nan (heard size l best d) ≡ false
unfolding heard
heard_number size l best None h = h
heard_number size l best (Some d) h = better_number best (candidate size l d) h

settling_number : (f : Field) (rs : List MarchedRow) (k p : ℕ) (best : Float) (ns : List ℕ) → is_nan best ≡ false → is_nan (settling f rs k p best ns) ≡ false
unfolding settling
settling_number f rs k p best [] h = h
settling_number f rs k p best (n ∷ ns) h = settling_number f rs k (suc p) _ ns (heard_number f.size (f.reach k p) best (distance_of n rs) h)

pub settled_within : (f : Field) (rs : List MarchedRow) (k : ℕ) → le zero32 f.most ≡ true → within f.most (settled f rs k) ≡ true
unfolding settled of_bits is_nan
settled_within f rs k h = clamped_within _ f.most (settling_number f rs k 0 largest (f.near k) refl) h

-- every marched row is a seed, or at most the maximum distance in size
pub march_within : (f : Field) (m : Rooms) (rs : List MarchedRow)
    → le zero32 f.most ≡ true
    → After (λ s. All (λ (r : MarchedRow). (r ∈ rs) ⊎ (within f.most r.distance ≡ true)) s.stored) (march f m rs)
march_within f m rs h =
    march_rows f m (λ k. Unit) (λ (r : MarchedRow). (r ∈ rs) ⊎ (within f.most r.distance ≡ true))
    (λ k u. every (λ k. Unit) (f.near k) (λ x. tt))
    (λ ts k u. inr (settled_within f ts k h))
    rs
    (among (λ (r : MarchedRow). ((r ∈ rs) ⊎ (within f.most r.distance ≡ true)) × Unit) rs (λ r i. (inl i, tt)))
