-- Keys in order, and where one stands.
use Rattle.std.specs.Prelude.{ℕ, zero, suc, ◌+◌, ◌-◌, ◌/◌, Bool, true, false, cond, ◌&&◌, ◌||◌, List, [], ◌∷◌, length, get_or, ltb, eqb, Some, None, Option}

-- k stands in the list
unfoldable pub member : ℕ → List ℕ → Bool
member k [] = false
member k (l ∷ ls) = eqb l k || member k ls

-- each key is above the one before it
unfoldable pub rises_from : ℕ → List ℕ → Bool
rises_from k [] = true
rises_from k (l ∷ ls) = ltb k l && rises_from l ls

unfoldable pub ascending : List ℕ → Bool
unfolding rises_from
ascending [] = true
ascending (k ∷ ks) = rises_from k ks

-- one place further on
unfoldable pub next : Option ℕ → Option ℕ
next (Some i) = Some (suc i)
next None = None

-- the first place where k stands
unfoldable pub find : ℕ → List ℕ → Option ℕ
unfolding next
find k [] = None
find k (l ∷ ls) = cond (eqb l k) (Some 0) (next (find k ls))

-- how many keys at the front are below k: the place that k has or would take
unfoldable pub place_of : ℕ → List ℕ → ℕ
place_of k [] = 0
place_of k (l ∷ ls) = cond (ltb l k) (suc (place_of k ls)) 0

-- The search by halves between the places lo and hi, in at most f steps. On ascending keys it ends at place_of (halved_place of proofs/Keys.antt).
unfoldable pub halving : ℕ → ℕ → List ℕ → ℕ → ℕ → ℕ
halving zero k ks lo hi = lo
halving (suc f) k ks lo hi =
    let m = lo + (hi - lo) / 2 in
    cond (ltb lo hi) (cond (ltb (get_or ks m 0) k) (halving f k ks (m + 1) hi) (halving f k ks lo m)) lo

abbrev pub halved : ℕ → List ℕ → ℕ
halved k ks = halving (length ks) k ks 0 (length ks)

-- the place where the search by halves ends, if k stands there
unfoldable pub find_by : ℕ → List ℕ → Option ℕ
find_by k ks = let p = halved k ks in cond (ltb p (length ks) && eqb (get_or ks p 0) k) (Some p) None
