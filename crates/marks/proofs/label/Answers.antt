-- `marks::label` meets its contract: only 0 is below 1.
-- Assumes nothing.
use Prim.Native.Nat.{ℕ, zero, suc, max}
use native.Mathlib.Omega.{arith}
use mathlib.Core.Path.{◌≡◌, refl, ◌∙◌}
use borrow.Author.Tests.{ne_eqb}
use Rattle.marks.specs.Marks.{label}
use Rattle.marks.proofs.label.Goals as goal

at_least_one : (k : ℕ) → max k 1 ≡ label k
unfolding label
at_least_one zero = refl
at_least_one (suc k) = rw (ne_eqb (suc k) 0 (omega arith)) (omega arith)

pub returns : goal.returns
returns c = c.max.ensures ∙ at_least_one c.args.key
