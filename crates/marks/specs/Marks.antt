-- A list of keys as a table with open addressing. A key's label stands for it: 1 for key 0, else the key itself; key 1 is on no lattice.
-- 0 is an empty place. A label's path goes from its home to the end of the list, and then from the first place to its home; before a label
-- stand only larger ones on its path.
use Rattle.std.specs.Prelude.{ℕ, zero, suc, ◌+◌, ◌*◌, ◌/◌, ◌%◌, ◌^◌, ◌-◌, ◌<◌, ◌≡◌, Bool, cond, ◌&&◌, ◌||◌, List, [], ◌∷◌, eqb, leb, ltb, length, get_or, Float, Ok, Err, Result, None, Option, Some}
use Rattle.std.specs.Float.{nan}

-- what stands in the list for the key k
unfoldable pub label : ℕ → ℕ
label k = cond (eqb k 0) 1 k

-- ---- the path of a label

-- the low three bits of a lattice key agree, so one says all
abbrev pub packed : ℕ → ℕ
packed k = k / 8 * 2 + k % 2

-- a number scattered below 2 ^ 32; all its bits count
abbrev pub mixed : ℕ → ℕ
mixed x = (x % 2 ^ 32 * 2654435769 + x / 2 ^ 32 * 2246822519) % 2 ^ 32

-- where the path of k begins among n places: eight near cells share eight places, whose number is scattered
unfoldable pub home : ℕ → ℕ → ℕ
home k n = cond (ltb n 8) 0 (mixed (packed k / 8) * (n / 8 % 2 ^ 32) / 2 ^ 32 * 8 + packed k % 8)

-- how late the place q comes on a path that begins at h among n places: those below h come after all others
unfoldable pub along : ℕ → ℕ → ℕ → ℕ
along h n q = cond (ltb q h) (q + n) q

-- whether the place a comes before the place b on a path that begins at h, among any number of places that has both
unfoldable pub comes_first : ℕ → ℕ → ℕ → Bool
comes_first h a b = cond (leb h a) (ltb b h || ltb a b) (ltb b h && ltb a b)

-- all labels are larger than k before the place p on the path of k
abbrev pub Outranked : ℕ → List ℕ → ℕ → Type 0
Outranked k ks p =
    (q : ℕ) → q < length ks → along (home k (length ks)) (length ks) q < along (home k (length ks)) (length ks) p → k < get_or ks q 0

-- each label that stands somewhere has only larger ones before it on its path
abbrev pub Kept : List ℕ → Type 0
Kept ks = (p : ℕ) → (get_or ks p 0 ≡ 0 → ⊥) → Outranked (get_or ks p 0) ks p

-- ---- the search

-- the first of m places from i on whose label is at most k, or the place after them
unfoldable pub seek : ℕ → List ℕ → ℕ → ℕ → ℕ
seek k ks i zero = i
seek k ks i (suc m) = cond (ltb k (get_or ks i 0)) (seek k ks (suc i) m) i

-- a where it is one of n places, else b
unfoldable pub or_again : ℕ → ℕ → ℕ → ℕ
or_again n a b = cond (ltb a n) a b

-- where the search for the label k ends: at the first place of its path whose label is at most k; at its home where there is none
unfoldable pub halt : ℕ → List ℕ → ℕ
halt k ks = or_again (length ks) (seek k ks (home k (length ks)) (length ks - home k (length ks))) (seek k ks 0 (home k (length ks)))

-- the label k stands at the place p, or it is absent and its search ended there
unfoldable pub spot_at : ℕ → List ℕ → ℕ → Result ℕ ℕ
spot_at k ks p = cond (eqb (get_or ks p 0) k) (Ok p) (Err p)

-- where the label k stands, or where its search ended
abbrev pub standing : ℕ → List ℕ → Result ℕ ℕ
standing k ks = spot_at k ks (halt k ks)

-- where the key k stands, or where its search ended
abbrev pub spot_of : ℕ → List ℕ → Result ℕ ℕ
spot_of k ks = standing (label k) ks

-- ---- values

-- the value at a key's place
unfoldable pub value_at : Result ℕ ℕ → List Float → Option Float
value_at (Ok i) ds = Some (get_or ds i nan)
value_at (Err i) ds = None

-- the value of the key k, where it stands
abbrev pub look : ℕ → List ℕ → List Float → Option Float
look k ks ds = value_at (spot_of k ks) ds

-- how many places are not empty
unfoldable pub occupied : List ℕ → ℕ
occupied [] = 0
occupied (x ∷ xs) = cond (eqb x 0) (occupied xs) (suc (occupied xs))

-- ---- a key that was absent

-- the place after i among n, the first after the last
unfoldable pub following : ℕ → ℕ → ℕ
following i n = cond (ltb (i + 1) n) (i + 1) 0

-- k is absent, and its search ended at p; a place is empty
pub record MayEnter (k p : ℕ) (ks : List ℕ) (ds : List Float) : Type 0 where
  pub kept : Kept ks
  pub long : length ds ≡ length ks
  pub absent : spot_of k ks ≡ Err p
  pub room : occupied ks < length ks

-- k has the value v now; every other key has the value that it had
pub record Entered (k : ℕ) (v : Float) (ks : List ℕ) (ds : List Float) (ks' : List ℕ) (ds' : List Float) : Type 0 where
  pub kept : Kept ks'
  pub places : length ks' ≡ length ks
  pub values : length ds' ≡ length ks
  pub value : look k ks' ds' ≡ Some v
  pub others : (j : ℕ) → (label j ≡ label k → ⊥) → look j ks' ds' ≡ look j ks ds
  pub fuller : occupied ks' ≡ suc (occupied ks)

-- what putting in a key does to lists in which it is absent
abbrev pub Enters : ℕ → ℕ → Float → List ℕ → List Float → List ℕ → List Float → Type 0
Enters k p v ks ds ks' ds' = MayEnter k p ks ds → Entered k v ks ds ks' ds'

-- ---- a key that stood there

-- labels stand on their paths, and a place is empty
pub record MayLeave (ks : List ℕ) (ds : List Float) : Type 0 where
  pub kept : Kept ks
  pub long : length ds ≡ length ks
  pub room : occupied ks < length ks

-- k has no value any more; every other key has the value that it had
pub record Gone (k : ℕ) (ks : List ℕ) (ds : List Float) (ks' : List ℕ) (ds' : List Float) : Type 0 where
  pub kept : Kept ks'
  pub places : length ks' ≡ length ks
  pub values : length ds' ≡ length ks
  pub value : look k ks' ds' ≡ None
  pub others : (j : ℕ) → (label j ≡ label k → ⊥) → look j ks' ds' ≡ look j ks ds
  pub emptier : occupied ks ≡ suc (occupied ks')

-- what taking out the label at p does to lists in which it is k's
abbrev pub Leaves : ℕ → List ℕ → List Float → List ℕ → List Float → Type 0
Leaves p ks ds ks' ds' = (k : ℕ) → spot_of k ks ≡ Ok p → MayLeave ks ds → Gone k ks ds ks' ds'
