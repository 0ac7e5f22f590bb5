-- A cell's higher neighbours with their sides, and what every three of them with the cell are cut into.
use Rattle.std.specs.Prelude.{ℕ, Bool, false, cond, List, [], ◌∷◌, map, get_or}
use Rattle.lists.specs.Lists.{joined}
use Rattle.lists.specs.Threes.{Three, three, threes}
use Rattle.edges.specs.Edges.{Edge}
use Rattle.table.specs.Table.{Row}
use Rattle.rings.specs.Sides.{weighted}
use Rattle.tetrahedra.specs.ClosedEdges.{inside_at}
use Rattle.tetrahedra.specs.Near.{higher, close}
use Rattle.cuts.specs.declared.Cut.{Cut}
use Rattle.cuts.specs.declared.Cut.TheVariants.{Nothing}
use Rattle.cuts.specs.Cuts.{cut_of}
use Rattle.cuts.specs.Patches.{triangles_by}

-- a key, and whether its cell is inside
pub record Sided : Type 0 where
  pub key : ℕ
  pub inside : Bool

abbrev pub sided : ℕ → Bool → Sided
sided k s = record { key = k; inside = s }

-- keys beside their sides
unfoldable pub sided_by : List ℕ → List Bool → List Sided
sided_by [] ss = []
sided_by (k ∷ ks) [] = []
sided_by (k ∷ ks) (s ∷ ss) = sided k s ∷ sided_by ks ss

-- the one at a place
abbrev pub sided_at : List ℕ → List Bool → ℕ → Sided
sided_at ks ss i = sided (get_or ks i 0) (get_or ss i false)

-- how a cell and three others are cut: not at all where the three are not pairwise adjacent
unfoldable pub cut_with : Sided → Three Sided → Cut
unfolding close
cut_with own t =
    cond (close (three t.a.key t.b.key t.c.key))
    (cut_of own.inside t.a.inside t.b.inside t.c.inside own.key t.a.key t.b.key t.c.key)
    Nothing

-- the triangles of some threes with a cell
abbrev pub cuts_of : List Edge → Sided → List (Three Sided) → List (Three ℕ)
cuts_of es own ts = joined (λ (t : Three Sided). triangles_by es (cut_with own t)) ts

-- a cell of a table with its side
abbrev pub sided_in : List Row → ℕ → Sided
sided_in rows k = sided k (inside_at rows k)

-- the triangles of the tetrahedra whose smallest key is k
unfoldable pub cuts_at : List Row → List Edge → ℕ → List (Three ℕ)
unfolding higher inside_at joined threes cut_with triangles_by
cuts_at rows es k = cuts_of es (sided_in rows k) (threes (map (sided_in rows) (higher rows k)))

-- those of a row: none where its weight is not above 0
abbrev pub cut_row : List Row → List Edge → Row → List (Three ℕ)
cut_row rows es r = cond (weighted r) (cuts_at rows es r.key) []
