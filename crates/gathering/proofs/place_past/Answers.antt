-- `gathering::place_past` meets its contract: of the four keys among which the place is, those below the key are before it.
-- Assumes nothing.
use mathlib.Core.Bool.{Bool, true, false, cond}
use mathlib.Core.Path.{◌≡◌, refl, ◌∙◌}
use mir.Val.{bool_byte}
use Rattle.gathering.proofs.Placing.{of_four}
use Rattle.gathering.proofs.place_past.Goals as goal

-- a test as a number
byte_is : (b : Bool) → bool_byte b ≡ cond b 1 0
byte_is true = refl
byte_is false = refl

pub returns-then-place-count : goal.returns-then-place-count
returns-then-place-count c =
    let some = c.if-place-count.true in
    let place = c.skip_fours-place.result in
    let skipped = c.skip_fours-place.ensures in
    of_four c.args.key c.args.keys.now c.args.count c.requires.count_in_bounds.0 c.requires.count_in_bounds.1
    place _ _ _ skipped.upper_bound.1 (skipped.keys_bound some) some
    (c.from.ensures ∙ byte_is _) (c.from-then-place-count.ensures ∙ byte_is _) (c.from-then-place-count-2.ensures ∙ byte_is _)
