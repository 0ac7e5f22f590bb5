-- A cell's group as a part of the list of groups.
use Rattle.std.specs.Prelude.{ℕ, ◌+◌, Bool, cond, ◌&&◌, List, [], ◌∷◌, eqb, leb, length, take}
use Rattle.ids.specs.Key.{on_lattice}
use Rattle.edges.specs.Edges.{Edge, edge}
use Rattle.groups.specs.Groups.{start_of, count_of, part_of}
use Rattle.groups.specs.declared.Span.{Span}

-- the edges of two lists side by side
unfoldable pub paired : List ℕ → List ℕ → List Edge
paired [] bs = []
paired (a ∷ as') [] = []
paired (a ∷ as') (b ∷ bs) = edge a b ∷ paired as' bs

-- the first n of them
abbrev pub edges_in : List ℕ → List ℕ → ℕ → List Edge
edges_in first second n = take n (paired first second)

-- two lists of equal length within the limit, and no more edges than places
abbrev pub pairs_ok : ℕ → ℕ → ℕ → Bool
pairs_ok first second count = eqb first second && (leb first 1048576 && leb count first)

-- refusal 2 would not apply
abbrev pub edge_lists_ok : ℕ → ℕ → ℕ → ℕ → Bool
edge_lists_ok groups first second count = leb groups 1048576 && pairs_ok first second count

-- where a cell's group stands in a list of a given length; nowhere where it would pass the end
abbrev pub span_in : ℕ → ℕ → ℕ → Span
span_in start count room = cond (leb (start + count) room) (record { start = start; end = start + count }) (record { start = 0; end = 0 })

-- the same of two lists of edges; nowhere where 2 or 4 would refuse
unfoldable pub cell_span : ℕ → List ℕ → List ℕ → ℕ → ℕ → Span
unfolding start_of count_of paired
cell_span groups first second count cell =
    cond (edge_lists_ok groups (length first) (length second) count && on_lattice cell)
    (span_in (start_of cell (edges_in first second count)) (count_of cell (edges_in first second count)) groups)
    (record { start = 0; end = 0 })

-- the group of a cell: a part of the list, empty where 2 or 4 would refuse
unfoldable pub cell_edges : List ℕ → List ℕ → List ℕ → ℕ → ℕ → List ℕ
unfolding part_of paired
cell_edges groups first second count cell =
    cond (edge_lists_ok (length groups) (length first) (length second) count && on_lattice cell) (part_of (edges_in first second count) cell groups) []
