-- A handful with the number of an edge that was found, or with none.
-- Assumes nothing.
use Rattle.std.specs.Prelude.{Some, None, Option}
use Prim.Native.Nat.{ℕ, ◌≤◌, ◌<◌}
use native.Mathlib.Omega.{arith}
use mathlib.Core.Path.{◌≡◌, sym, ap, ◌∙◌}
use Rattle.handful.specs.declared.Handful.{Handful}
use Rattle.handful.specs.Handfuls.{held, numbers_of, Roomy, with_one}
use Rattle.handful.proofs.PlacingLaws.{one_more}
use Rattle.groups.specs.Near.{with_number}
use Rattle.groups.specs.Steps.{Below}

-- what the function then answers: a number was found, or none
pub with_one_lem : (g : Handful) (f : Option ℕ) (i : ℕ) → Roomy g → f ≡ Some i → with_one i g ≡ held (with_number f (numbers_of g))
unfolding with_number
with_one_lem g f i o e = rw e (one_more g i o)

pub with_none : (g : Handful) (f : Option ℕ) → Roomy g → f ≡ None → g ≡ held (with_number f (numbers_of g))
unfolding with_number
with_none g f o e = o.whole ∙ ap (λ (y : Option ℕ). held (with_number y (numbers_of g))) (sym e)

pub below_at : (n i : ℕ) (f : Option ℕ) → f ≡ Some i → Below n f → i < n
below_at n i (Some j) e b = let same : j ≡ i = cc in omega arith
below_at n i None e b = let z : ◌≡◌ {A = ℕ} 0 1 = cc in omega arith

pub below_more : (m n : ℕ) (f : Option ℕ) → m ≤ n → Below m f → Below n f
below_more m n (Some i) h b = omega arith
below_more m n None h b = tt
