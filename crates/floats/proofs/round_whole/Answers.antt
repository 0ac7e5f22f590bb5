-- `floats::round_whole` meets its contract: from 2 ^ 32 on no i32 is near, and below it the size is rounded and the sign put back. Assumes nothing.
use Rattle.std.proofs.Common.{◌≡◌, ℕ, Bool, true, false, sym, ap, ◌∙◌}
use lib.Ieee.{Float, lt}
use Rattle.floats.specs.Floats.{zero32, signed}
use Rattle.floats.specs.Steps.{too_large_lem}
use Rattle.floats.proofs.Halves.{outside, signed_is}
use Rattle.floats.proofs.round_whole.Goals as goal

-- the test, of the definition's size
tested : (s r : Float) (b : Bool) → s ≡ r → lt s too_large_lem ≡ b → lt r too_large_lem ≡ b
tested s r b e h = ap (λ (v : Float). lt v too_large_lem) (sym e) ∙ h

pub halves_up-requires : goal.halves_up-requires
halves_up-requires c = tested _ _ true c.size.ensures c.if-size.true

pub returns-then-size : goal.returns-then-size
returns-then-size c =
    let x = c.args.x in
    c.with_sign.ensures
    ∙ ap (λ (w : ℕ). signed (lt x zero32) w) c.halves_up.ensures
    ∙ signed_is x (tested _ _ true c.size.ensures c.if-size.true)

pub returns-else-size : goal.returns-else-size
returns-else-size c = outside c.args.x (tested _ _ false c.size.ensures c.if-size.false)
