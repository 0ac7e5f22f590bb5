-- Demand 3 of an edge list, over any neighbours and any test of two rows.
use Rattle.std.specs.Prelude.{ℕ, ◌<◌, min, max, ◌≡◌, ◌⊎◌, ◌↔◌, Bool, true, false, List}
use Rattle.lists.specs.Lists.{◌∈◌, Ordered, Distinct, Ahead}
use Rattle.table.specs.Table.{Row}
use Rattle.edges.specs.Edges.{Edge, edge}

-- two keys, the smaller first
abbrev pub pair_of : ℕ → ℕ → Edge
pair_of a b = edge (min a b) (max a b)

-- two edges join the same two cells
abbrev pub SamePair : Edge → Edge → Type 0
SamePair e f = ((e.first ≡ f.first) × (e.second ≡ f.second)) ⊎ ((e.first ≡ f.second) × (e.second ≡ f.first))

-- the neighbours of a key are the keys adjacent to it, each once; adjacency goes both ways and no key is adjacent to itself
pub record Neighbourhood (near : ℕ → List ℕ) (adjacent : ℕ → ℕ → Bool) : Type 0 where
  pub once : (k : ℕ) → Distinct (near k)
  pub exactly : (k l : ℕ) → (l ∈ near k) ↔ (adjacent k l ≡ true)
  pub both : (k l : ℕ) → adjacent k l ≡ adjacent l k
  pub apart : (k : ℕ) → adjacent k k ≡ false

-- a test of two rows that does not turn on which is named first
abbrev pub Symmetric : (Row → Row → Bool) → Type 0
Symmetric crosses = (r s : Row) → crosses r s ≡ crosses s r

-- document 01's order: by first key; of one first key, by the place of the second among its neighbours
abbrev pub Before : (ℕ → List ℕ) → Edge → Edge → Type 0
Before near e f = (e.first < f.first) ⊎ ((e.first ≡ f.first) × Ahead (near e.first) e.second f.second)

-- two stored rows that are adjacent and cross
pub record Crossing (adjacent : ℕ → ℕ → Bool) (crosses : Row → Row → Bool) (rows : List Row) (r s : Row) : Type 0 where
  pub stored : r ∈ rows
  pub beside : s ∈ rows
  pub adjacency : adjacent r.key s.key ≡ true
  pub crossing : crosses r s ≡ true

-- l is the edge list of rows
pub record IsEdgeList (near : ℕ → List ℕ) (adjacent : ℕ → ℕ → Bool) (crosses : Row → Row → Bool) (rows : List Row) (l : List Edge) : Type 0 where
  -- it holds every pair of stored cells that are adjacent and cross,
  pub every : (r s : Row) → Crossing adjacent crosses rows r s → pair_of r.key s.key ∈ l
  -- and no other,
  pub only : (e : Edge) → e ∈ l → (r : Row) × (s : Row) × Crossing adjacent crosses rows r s × (e ≡ pair_of r.key s.key)
  -- each pair once, in either order,
  pub once : Ordered (λ e f. SamePair e f → ⊥) l
  -- smaller key first,
  pub smaller : (e : Edge) → e ∈ l → e.first < e.second
  -- in document 01's order
  pub ordered : Ordered (Before near) l
