-- A cell's group worked out from its own neighbourhood, on any edge list. On the edge list of a table it is the group (`near_is_group` of proofs/Handed.antt).
use Rattle.std.specs.Prelude.{ℕ, suc, min, max, cond, List, [], ◌∷◌, eqb, length, take, drop, Some, None, Option}
use Rattle.handful.specs.Handfuls.{placed_in}
use Rattle.neighbors.specs.Neighbors.{neighbours}
use Rattle.search.specs.Keys.{halved}
use Rattle.search.specs.Nearby.{place_near}
use Rattle.edges.specs.Edges.{Edge}
use Rattle.edges.specs.Listing.{firsts}
use Rattle.groups.specs.CellEdges.{paired, edges_in, pairs_ok}

-- the number of the edge between a and b, among edges from number n on, as long as they start at a
unfoldable pub scanned : ℕ → ℕ → ℕ → List Edge → Option ℕ
scanned n a b [] = None
scanned n a b (e ∷ es) = cond (eqb e.first a) (cond (eqb e.second b) (Some n) (scanned (suc n) a b es)) None

-- the number of the edge between a and b, from a place on
abbrev pub number_from : ℕ → ℕ → ℕ → List Edge → Option ℕ
number_from p a b es = scanned p a b (drop p es)

-- the number of the edge between a and b: by halves to the place of a, and on from there
unfoldable pub number_by : ℕ → ℕ → List Edge → Option ℕ
unfolding scanned
number_by a b es = number_from (halved a (firsts es)) a b es

-- the number of the edge between two cells, the smaller key first
abbrev pub pair_number : List Edge → ℕ → ℕ → Option ℕ
pair_number es cell other = number_by (min cell other) (max cell other) es

-- the same by two lists of edges, to the place of the smaller key from an edge on that is expected near; none where 2 would refuse the lists. Where the
-- first keys ascend, the edge is found whatever was expected (near_number of proofs/NumberLaws.antt).
unfoldable pub number_between : List ℕ → List ℕ → ℕ → ℕ → ℕ → ℕ → Option ℕ
unfolding scanned paired
number_between first second count near a b =
    cond (pairs_ok (length first) (length second) count)
    (number_from (place_near (min a b) (take count first) near) (min a b) (max a b) (edges_in first second count))
    None

-- what was found put in, where there is an edge
unfoldable pub with_number : Option ℕ → List ℕ → List ℕ
unfolding placed_in
with_number (Some i) numbers = placed_in i numbers
with_number None numbers = numbers

-- what a search finds of each of some cells
unfoldable pub gathered : (ℕ → Option ℕ) → List ℕ → List ℕ
unfolding with_number
gathered look [] = []
gathered look (other ∷ others) = with_number (look other) (gathered look others)

-- the numbers of the edges between a cell and its neighbours
abbrev pub near_group : List Edge → ℕ → List ℕ
near_group es cell = gathered (pair_number es cell) (neighbours cell)

-- the group of a cell from two lists of edges; empty where 2 would refuse them
unfoldable pub group_in : List ℕ → List ℕ → ℕ → ℕ → List ℕ
unfolding gathered number_by paired
group_in first second count cell = cond (pairs_ok (length first) (length second) count) (near_group (edges_in first second count) cell) []
