-- The number of the vertex between two cells, by two lists of edges.
use Rattle.std.specs.Prelude.{ℕ, ◌≤◌, ◌≡◌, true, cond, List, leb, length, Some, None, Option}
use Rattle.lists.specs.Lists.{Ordered, Distinct}
use Rattle.edges.specs.Listing.{firsts}
use Rattle.groups.specs.CellEdges.{edges_in, pairs_ok}
use Rattle.groups.specs.Near.{number_between}

-- the number past the last of n edges; 0 where no list holds so many
abbrev pub past_last : ℕ → ℕ
past_last n = cond (leb n 1048576) n 0

-- a number that was found, or the one past the last
abbrev pub number_or : ℕ → Option ℕ → ℕ
number_or n (Some i) = i
number_or n None = past_last n

-- the vertex between two cells, searched from an edge on that is expected near
unfoldable pub vertex_by : List ℕ → List ℕ → ℕ → ℕ → ℕ → ℕ → ℕ
unfolding number_between
vertex_by first second n near a b = number_or n (number_between first second n near a b)

-- Two lists of edges in which an edge is found so: no edge twice, first keys ascending. There the vertex is the place in the list (proofs/VertexLaws.antt).
pub record Numbered (first second : List ℕ) (n : ℕ) : Type 0 where
  pub pairs : pairs_ok (length first) (length second) n ≡ true
  pub once : Distinct (edges_in first second n)
  pub rising : Ordered ◌≤◌ (firsts (edges_in first second n))
