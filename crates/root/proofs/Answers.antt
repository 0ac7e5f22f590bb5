-- What `root` answers at the edges: a zero and the infinity are their own roots, a NaN and what is below zero are
-- refused, and a finite value above zero gets the nearest value to its root. Assumes nothing.
use Rattle.std.specs.Prelude.{Ok, Err}
use Rattle.std.proofs.Common.{◌≡◌, Bool, true, false, T, sym, refl, ◌∙◌, true≢false}
use lib.Ieee.{Float, nan, inf, fin, binary32, lt, le, eq, is_nan, fits, of_bits}
use lib.Ieee.Positive.{positive}
use Rattle.refusals.specs.declared.Refusal.TheVariants.{BadReading}
use Rattle.floats.specs.Floats.{f32, zero32}
use Rattle.floats.proofs.Order.{le_of_not_lt, not_lt_of_le}
use Rattle.floats.proofs.Signs.{positive_above}
use Rattle.root.specs.Root.{root_of, root_answer}
use Rattle.root.specs.Nearest.{IsNearest}
use Rattle.root.proofs.Correct.{correct}

-- ---- taken exactly where the argument is at least 0
pub taken : (x : Float) → le zero32 x ≡ true → root_answer x ≡ Ok (root_of x)
unfolding root_answer
taken x h = rw h

pub refused : (x : Float) → le zero32 x ≡ false → root_answer x ≡ Err BadReading
unfolding root_answer
refused x h = rw h

-- ---- the edges
pub minus_zero : root_answer (f32 0x8000_0000) ≡ Ok (f32 0x8000_0000)
unfolding root_answer of_bits
minus_zero = refl

pub plus_zero : root_answer (f32 0) ≡ Ok (f32 0)
unfolding root_answer of_bits
plus_zero = refl

pub infinity : root_answer (f32 0x7F80_0000) ≡ Ok (f32 0x7F80_0000)
unfolding root_answer of_bits
infinity = refl

pub nan_refused : root_answer nan ≡ Err BadReading
unfolding root_answer
nan_refused = refused nan (unfold le lt eq of_bits in refl)

pub below_zero_refused : (x : Float) → lt x zero32 ≡ true → root_answer x ≡ Err BadReading
below_zero_refused x h = refused x (not_taken (le zero32 x) refl)
  where
    not_taken : (t : Bool) → le zero32 x ≡ t → t ≡ false
    not_taken true e = absurd (true≢false (sym h ∙ not_lt_of_le zero32 x e))
    not_taken false e = refl

-- ---- a finite value above zero
at_least_0 : (x : Float) → T (positive x) → le zero32 x ≡ true
unfolding is_nan of_bits
at_least_0 nan p = absurd p
at_least_0 (inf s) p = absurd p
at_least_0 (fin true m e) p = absurd p
at_least_0 (fin false m e) p = le_of_not_lt zero32 (fin false m e) refl refl (positive_above m e)

pub answered : (x : Float) → T (fits binary32 x) → T (positive x) → (root_answer x ≡ Ok (root_of x)) × IsNearest x (root_of x)
answered x f p = (taken x (at_least_0 x p), correct x f p)
