-- The statistics of a mesh: whether some vertex has a normal.
use Rattle.std.specs.Prelude.{ℕ, Bool, false, cond, not, ◌&&◌, List, length, take, Float, Ok, Err, Result}
use Rattle.std.specs.Float.Ieee.{eq}
use Rattle.lists.specs.Beside.{beside_by}
use Rattle.floats.specs.Floats.{zero32}
use Rattle.refusals.specs.Refusals.{number_of}
use Rattle.refusals.specs.declared.Refusal.TheVariants.{Lengths}
use Rattle.slopes.specs.declared.Normal.{Normal}
use Rattle.slopes.specs.Normals.{normal}
use Rattle.corners.specs.Corners.{set_ok, every}
use Rattle.refusals.specs.declared.Refusal.{Refusal}

-- the normals of the first n places
abbrev pub normals_in : List Float → List Float → List Float → ℕ → List Normal
normals_in xs ys zs n = take n (beside_by normal xs ys zs)

-- three zeros of either sign
abbrev pub is_none : Normal → Bool
is_none v = eq v.x zero32 && (eq v.y zero32 && eq v.z zero32)

-- refused with 2 for lengths; otherwise whether some normal is not three zeros
unfoldable pub stats_answer : List Float → List Float → List Float → ℕ → Result Bool Refusal
unfolding every
stats_answer xs ys zs n =
    cond (set_ok (length xs) (length ys) (length zs) n) (Ok (not (every is_none (normals_in xs ys zs n)))) (Err Lengths)

-- document 01's number of the answer, 0 for no refusal, and what it says, no where it is refused
abbrev pub stats_number : Result Bool Refusal → ℕ
stats_number (Ok yes') = 0
stats_number (Err why) = number_of why

abbrev pub stats_value : Result Bool Refusal → Bool
stats_value (Ok yes') = yes'
stats_value (Err why) = false
