-- Questions about a cell: its distance, and whether it is free.
use Rattle.std.specs.Prelude.{ℕ, Bool, false, Float, Ok, Err, Some, None, Result, Option}
use Rattle.std.specs.Float.Ieee.{lt}
use Rattle.refusals.specs.Refusals.{number_of, absent_number}
use Rattle.marching.specs.March.{distance_of}
use Rattle.marched.specs.Marched.{MarchedTable, marched_rows, key_check, free_check, once_passed}
use Rattle.refusals.specs.declared.Refusal.{Refusal}

-- the distance that is stored, or none
abbrev pub get_distance : MarchedTable → ℕ → Result (Option Float) Refusal
get_distance t k = once_passed (key_check t k) (distance_of k (marched_rows t))

-- a stored distance above the threshold; no where none is stored
unfoldable pub is_above : Float → Option Float → Bool
is_above threshold (Some d) = lt threshold d
is_above threshold None = false

abbrev pub is_free_space : MarchedTable → ℕ → Float → Result Bool Refusal
is_free_space t k threshold = once_passed (free_check t k threshold) (is_above threshold (distance_of k (marched_rows t)))

-- the number of an answer: 0 where there is one, Absent's, or document 01's of the refusal
abbrev pub distance_number : Result (Option Float) Refusal → ℕ
distance_number (Ok (Some d)) = 0
distance_number (Ok None) = absent_number
distance_number (Err why) = number_of why

abbrev pub free_number : Result Bool Refusal → ℕ
free_number (Ok b) = 0
free_number (Err why) = number_of why
