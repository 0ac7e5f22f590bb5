-- Groups: the edge numbers of each cell, cells and numbers ascending, in one list.
use Rattle.std.specs.Prelude.{ℕ, suc, ◌+◌, ◌<◌, ◌≡◌, ◌⊎◌, Bool, cond, ◌||◌, List, [], ◌∷◌, eqb, ltb, leb, length, get_or, take, drop}
use Rattle.lists.specs.Lists.{joined}
use Rattle.edges.specs.Edges.{Edge, edge}

-- the edge of a number
abbrev pub edge_at : List Edge → ℕ → Edge
edge_at es i = get_or es i (edge 0 0)

-- i is the number of an edge that has the cell as an end
pub record EndsAt (es : List Edge) (i cell : ℕ) : Type 0 where
  pub numbered : i < length es
  pub ends : ((edge_at es i).first ≡ cell) ⊎ ((edge_at es i).second ≡ cell)

-- a cell is an end of an edge
abbrev pub touches : ℕ → Edge → Bool
touches cell e = eqb e.first cell || eqb e.second cell

-- the numbers of the edges that have the cell as an end, the first edge being number n
unfoldable pub numbers_from : ℕ → ℕ → List Edge → List ℕ
numbers_from n cell [] = []
numbers_from n cell (e ∷ es) = cond (touches cell e) (n ∷ numbers_from (suc n) cell es) (numbers_from (suc n) cell es)

-- a cell's group
abbrev pub group_of : List Edge → ℕ → List ℕ
group_of es cell = numbers_from 0 cell es

-- the groups of cells, one after the other
abbrev pub groups : List Edge → List ℕ → List ℕ
groups es cells = joined (group_of es) cells

-- 1 where a test passes
abbrev pub one : Bool → ℕ
one b = cond b 1 0

-- where a cell's group starts: the number of edge ends with a smaller key
unfoldable pub start_of : ℕ → List Edge → ℕ
start_of cell [] = 0
start_of cell (e ∷ es) = one (ltb e.first cell) + one (ltb e.second cell) + start_of cell es

-- how long it is: the number of edges that have the cell as an end
unfoldable pub count_of : ℕ → List Edge → ℕ
count_of cell [] = 0
count_of cell (e ∷ es) = one (touches cell e) + count_of cell es

-- the part of a list where a cell's group stands; empty where it would pass the list's end
unfoldable pub part_of : {A : Type 0} → List Edge → ℕ → List A → List A
unfolding start_of count_of
part_of es cell l =
    let start = start_of cell es in
    let count = count_of cell es in
    cond (leb (start + count) (length l)) (take count (drop start l)) []
