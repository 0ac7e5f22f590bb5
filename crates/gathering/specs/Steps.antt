-- A step of settling, for private contracts.
use Rattle.std.specs.Prelude.{ℕ, ◌+◌, ◌-◌, cond, List, ◌++◌, eqb, get_or, take, drop, set}
use Rattle.search.specs.Keys.{halved}
use Rattle.gathering.specs.Gathering.{above}

-- the place of the first of n own keys among the keys, by halves; 0 where there is none
abbrev pub first_place : List ℕ → List ℕ → ℕ → ℕ
first_place ks own n = cond (eqb n 0) 0 (halved (get_or own 0 0) ks)

-- what stands from `from` up to `end`, moved up so that it begins at `place` and ends at `to`
abbrev pub slid : {A : Type 0} → List A → ℕ → ℕ → ℕ → ℕ → List A
slid l place from end to = take place l ++ (drop from (take end l) ++ drop to l)

-- where a value stands by its seat, with r values of the column left and the places from w on written
abbrev pub seat_place : ℕ → ℕ → ℕ → ℕ
seat_place seat r w = w + above seat - r - 1

-- the column once the value stands there, behind it what was above the seat
abbrev pub seated_at : {A : Type 0} → ℕ → ℕ → ℕ → A → List A → List A
seated_at seat r w v l = set (slid l (w + above seat - r) (above seat) r w) (seat_place seat r w) v
