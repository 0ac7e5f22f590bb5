-- The sums over a cell's neighbours, one after another. Assumes nothing.
use Rattle.std.specs.Prelude.{None, Option, Some}
use mathlib.Core.Path.{◌≡◌, sym, ap, ◌∙◌}
use mathlib.Core.List.{List}
use Prim.Native.Nat.{ℕ, suc, ◌+◌, ◌<◌, ◌≤◌}
use native.Mathlib.Numerals.{add-one}
use native.Mathlib.Omega.{arith}
use lib.ListN.{length, drop, get_or, drop_of_length-le}
use lib.Seq.{drop-cons}
use lib.Ieee.{Float}
use Rattle.marching.specs.March.{MarchedRow, distance_of}
use Rattle.esdf_questions.specs.declared.Slopes.{Slopes}
use Rattle.esdf_questions.specs.Gradient.{slopes_with, slopes_from}

module _ (rs : List MarchedRow) (k : ℕ) (d : Float) (ns list : List ℕ) (filled : list ≡ ns) where
  pub slopes_more :
      (i : ℕ) (sum sum' : Slopes)
      → i < length ns
      → sum' ≡ slopes_with k d sum (get_or list i 0) (distance_of (get_or list i 0) rs)
      → slopes_from rs k d sum (drop i ns) ≡ slopes_from rs k d sum' (drop (i + 1) ns)
  unfolding slopes_from
  slopes_more i sum sum' l e =
      ap (slopes_from rs k d sum) (drop-cons ns i 0 l)
      ∙ ap (λ (x : ℕ). slopes_from rs k d (slopes_with k d sum x (distance_of x rs)) (drop (suc i) ns))
      (sym (ap (λ (x : List ℕ). get_or x i 0) filled))
      ∙ ap (λ (s : Slopes). slopes_from rs k d s (drop (suc i) ns)) (sym e)
      ∙ ap (λ (j : ℕ). slopes_from rs k d sum' (drop j ns)) (sym (add-one i))

  pub slopes_none : (i : ℕ) (sum : Slopes) → length ns ≤ i → slopes_from rs k d sum (drop i ns) ≡ sum
  unfolding slopes_from
  slopes_none i sum l = rw (drop_of_length-le ns {i = i} l)

pub slopes_few : (k : ℕ) (d : Float) (sum : Slopes) (n : ℕ) (o : Option Float) (i : ℕ) → sum.count ≤ i → (slopes_with k d sum n o).count ≤ i + 1
unfolding slopes_with
slopes_few k d sum n None i h = omega arith
slopes_few k d sum n (Some e) i h = omega arith
