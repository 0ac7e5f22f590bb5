-- What bcc_utils and its samples say of a snapped answer is what the face hands back of it. Assumes nothing.
use Rattle.std.specs.Prelude.{Result, Ok, Err}
use mathlib.Core.Path.{◌≡◌, refl}
use Rattle.refusals.specs.declared.Refusal.{Refusal}
use Rattle.refusals.specs.Refusals.{answer_number}
use Rattle.bcc_utils.specs.declared.WideCells.{WideCells}
use Rattle.bcc_utils.specs.Snapping.{snapped_number, snapped_place}
use Rattle.answers.specs.Given.{given, no_place}

pub snapped_number_handed : (answer : Result (WideCells × WideCells × WideCells) Refusal) → answer_number answer ≡ snapped_number answer
snapped_number_handed (Ok (x, y, z)) = refl
snapped_number_handed (Err why) = refl

pub snapped_place_handed :
    (answer : Result (WideCells × WideCells × WideCells) Refusal)
    → ((given no_place answer).0.0, (given no_place answer).1.0, (given no_place answer).2.0) ≡ snapped_place answer
snapped_place_handed (Ok (x, y, z)) = refl
snapped_place_handed (Err why) = refl
