-- Which readings of a batch are far, told by the readings alone: what serves the code, for private contracts.
use Rattle.std.specs.Prelude.{ℕ, zero, suc, Bool, cond, List, [], ◌∷◌}
use Rattle.table.specs.declared.Settings.{Settings}
use Rattle.measuring.specs.Readings.{admitted}
use Rattle.fusing.specs.Steps.{says_far}
use Rattle.batching.specs.Batches.{Entry, direct_of}

-- a reading is far, whatever the table holds
abbrev pub is_far : Settings → Entry → Bool
is_far s r = says_far (admitted s r.key (direct_of r))

-- how many of the first n readings are far
unfoldable pub far_up_to : Settings → List Entry → ℕ → ℕ
far_up_to s rs zero = 0
far_up_to s [] (suc n) = 0
far_up_to s (r ∷ rs) (suc n) = cond (is_far s r) (suc (far_up_to s rs n)) (far_up_to s rs n)
