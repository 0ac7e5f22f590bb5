-- What the private functions promise each other.
use Rattle.std.specs.Prelude.{ℕ, ◌<◌, ◌≤◌, ◌≡◌, Bool, cond, List, length, Err, Result}
use Rattle.refusals.specs.declared.Refusal.TheVariants.{Lengths}
use Rattle.triangles.specs.Building.{Source, groups_at, triangles_at, room_for_both}
use Rattle.triangles.specs.declared.Filled.{Filled}
use Rattle.refusals.specs.declared.Refusal.{Refusal}

-- the first n keys can be worked through, and the three lists are equally long where there is one
pub record Ready (keys : List ℕ) (n : ℕ) (x y z : List ℕ) : Type 0 where
  pub fits : n ≤ length keys
  pub few : n ≤ 65536
  pub second : 0 < n → length y ≡ length x
  pub third : 0 < n → length z ≡ length x

-- how many numbers and triangles there are
abbrev pub filled_with : Source → List ℕ → Filled
filled_with s cells = record { groups = length (groups_at s cells); triangles = length (triangles_at s cells) }

-- the answer to lengths that were tested and to what was filled
abbrev pub answer_for : Bool → Filled → ℕ → ℕ → Result ℕ Refusal
answer_for ok f room place = cond ok (room_for_both f.groups room f.triangles place) (Err Lengths)
