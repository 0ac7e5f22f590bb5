-- Own rows beside a table, and what settling them makes of it.
use Rattle.std.specs.Prelude.{ℕ, ◌+◌, ◌-◌, ◌/◌, ◌<◌, ◌≤◌, ◌≡◌, Bool, cond, List, [], ◌∷◌, ◌++◌, map, ltb, eqb, length, get_or, take, drop, Float}
use Rattle.floats.specs.Floats.{f32, zero32, between}
use Rattle.table.specs.Table.{Row, Table, put, laid}

-- a weight in range: its row stands
abbrev pub standing : Float → Float → Bool
standing most w = between zero32 most w

-- every own row that stands, put among the rows
unfoldable pub puts : Float → List Row → List Row → List Row
puts most [] rs = rs
puts most (r ∷ own) rs = cond (standing most r.weight) (put r (puts most own rs)) (puts most own rs)

-- ---- seats: 0 is that of a row that waits, 2p + 1 is before the row at p, and 2p + 2 over it

-- how many rows are below a seat
abbrev pub below : ℕ → ℕ
below s = (s - 1) / 2

-- the place of the first row above a seat
abbrev pub above : ℕ → ℕ
above s = s / 2

-- the seat of k: over the row with its key, or before the first with a larger key
unfoldable pub seat_of : ℕ → List ℕ → ℕ
seat_of k [] = 1
seat_of k (l ∷ ls) = cond (ltb l k) (seat_of k ls + 2) (cond (eqb l k) 2 1)

-- the seats of own keys among the keys ks
abbrev pub seats_of : List ℕ → List ℕ → List ℕ
seats_of ks own = map (λ (k : ℕ). seat_of k ks) own

-- own rows whose weight is not in range wait
unfoldable pub held_back : Float → List Float → List ℕ → List ℕ
held_back most [] ss = ss
held_back most (w ∷ ws) [] = []
held_back most (w ∷ ws) (s ∷ ss) = cond (standing most w) s 0 ∷ held_back most ws ss

-- the first m seats are among n rows
abbrev pub Within : ℕ → List ℕ → ℕ → Type 0
Within n ss m = (i : ℕ) → i < m → above (get_or ss i 0) ≤ n

-- no earlier seat of the first m takes or passes a row above a later one
abbrev pub InOrder : List ℕ → ℕ → Type 0
InOrder ss m = (i j : ℕ) → i < j → j < m → 0 < get_or ss j 0 → above (get_or ss i 0) ≤ below (get_or ss j 0)

-- ---- a column, whatever it holds

-- what a column holds at a seat that is over a row, and otherwise `absent`
unfoldable pub value_at : {A : Type 0} → List A → A → ℕ → A
value_at xs absent s = cond (ltb (below s) (above s)) (get_or xs (below s) absent) absent

abbrev pub loaded : {A : Type 0} → List A → A → List ℕ → List A
loaded xs absent ss = map (λ (s : ℕ). value_at xs absent s) ss

-- a column with own values at their seats
unfoldable pub seated : {A : Type 0} → List ℕ → List A → List A → List A
seated [] vs xs = xs
seated (s ∷ ss) [] xs = xs
seated (s ∷ ss) (v ∷ vs) xs =
    let ys = seated ss vs xs in
    cond (eqb s 0) ys (take (below s) ys ++ v ∷ drop (above s) ys)

-- own values settled among the first n of a column by their seats; the places behind them stay
abbrev pub settled_in : {A : Type 0} → List A → ℕ → List ℕ → List A → ℕ → List A
settled_in xs n ss vs m = laid (seated (take m ss) (take m vs) (take n xs)) xs

-- the column and the own values have so many, and `total` result, for which the column has room
pub record Settles {A : Type 0} (xs : List A) (n : ℕ) (ss : List ℕ) (vs : List A) (m total : ℕ) : Type 0 where
  pub column : n ≤ length xs
  pub seats : m ≤ length ss
  pub values : m ≤ length vs
  pub makes : total ≡ length (seated (take m ss) (take m vs) (take n xs))
  pub room : total ≤ length xs

-- ---- the rows of a table

-- the first n own keys have their seats, and their own rows the values there: those of a waiting row where there is none
pub record Loaded (t : Table) (ss ks : List ℕ) (ds ws : List Float) (n : ℕ) : Type 0 where
  pub seats : take n ss ≡ seats_of (take t.count t.keys) (take n ks)
  pub distances : take n ds ≡ loaded t.distances zero32 (take n ss)
  pub weights : take n ws ≡ loaded t.weights (f32 0xBF80_0000) (take n ss)
