-- A search from a place on, of a key that is expected near.
use Rattle.std.specs.Prelude.{ℕ, ◌+◌, ◌-◌, cond, ◌&&◌, List, length, get_or, ltb, leb, eqb, Some, None, Option}
use Rattle.search.specs.Keys.{halving}

-- the place `step` on, if the key there is not below k; else `end`
unfoldable pub nearer : ℕ → List ℕ → ℕ → ℕ → ℕ → ℕ
nearer k ks from step end = cond (ltb (from + step) (length ks) && leb k (get_or ks (from + step) 0)) (from + step) end

-- where the search ends: 16, 256 or 4096 places on, or with the list
abbrev pub end_above : ℕ → List ℕ → ℕ → ℕ
end_above k ks from = nearer k ks from 16 (nearer k ks from 256 (nearer k ks from 4096 (length ks)))

-- where the search by halves ends that begins at `from`
abbrev pub place_above : ℕ → List ℕ → ℕ → ℕ
place_above k ks from = halving (length ks) k ks from (end_above k ks from)

-- p, if k stands there
unfoldable pub stands_at : ℕ → List ℕ → ℕ → Option ℕ
stands_at k ks p = cond (ltb p (length ks) && eqb (get_or ks p 0) k) (Some p) None

-- that place, if k stands there. On ascending keys of which those before `from` are below k, this finds k (find_above_lem of proofs/NearbyLaws.antt).
abbrev pub find_above : ℕ → List ℕ → ℕ → Option ℕ
find_above k ks from = stands_at k ks (place_above k ks from)

-- the place `step` back, if the key before it is below k; else `low`
unfoldable pub behind : ℕ → List ℕ → ℕ → ℕ → ℕ → ℕ
behind k ks from step low = cond (ltb step from && (leb (from - step) (length ks) && ltb (get_or ks (from - step - 1) 0) k)) (from - step) low

-- where a search begins that is expected to end near a place: there, 16 or 256 places back, or with the list
abbrev pub start_near : ℕ → List ℕ → ℕ → ℕ
start_near k ks from = behind k ks from 0 (behind k ks from 16 (behind k ks from 256 0))

-- Where it ends, and that place if k stands there. On keys in order the one is the place of k, and on ascending keys the other finds it, whatever was
-- expected (near_place, find_near_lem of proofs/NearbyLaws.antt).
abbrev pub place_near : ℕ → List ℕ → ℕ → ℕ
place_near k ks from = place_above k ks (start_near k ks from)

abbrev pub find_near : ℕ → List ℕ → ℕ → Option ℕ
find_near k ks from = find_above k ks (start_near k ks from)
