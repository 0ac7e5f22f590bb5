-- Far, as the tests of a reading say it and as it is answered: what serves the counting of a batch.
use Rattle.std.specs.Prelude.{Bool, true, false, Ok, Err, Some, None, Option, Result}
use Rattle.fusing.specs.declared.Fused.{Fused}
use Rattle.refusals.specs.declared.Refusal.{Refusal}
use Rattle.measuring.specs.declared.Measured.{Measured}

-- the tests of a reading say that it is far
unfoldable pub says_far : Result (Option Measured) Refusal → Bool
says_far (Err why) = false
says_far (Ok None) = true
says_far (Ok (Some m)) = false

-- the answer is Far
unfoldable pub answers_far : Result Fused Refusal → Bool
answers_far (Ok Fused.New) = false
answers_far (Ok Fused.Changed) = false
answers_far (Ok Fused.Far) = true
answers_far (Err why) = false
