-- The triangles of the second mesh.
use Rattle.std.specs.Prelude.{ℕ, suc, Bool, ◌&&◌, List, [], ◌∷◌, eqb, leb, length, get_or}
use Rattle.std.proofs.Math.Bool.{not, cond}
use Rattle.lists.specs.Lists.{kept, joined}
use Rattle.table.specs.Table.{Row}
use Rattle.edges.specs.Edges.{Edge}
use Rattle.edges.specs.EdgeList.{pair_of}
use Rattle.lists.specs.Threes.{Three, three}
use Rattle.tetrahedra.specs.Fours.{Four, Corner, c0, corners, at}
use Rattle.tetrahedra.specs.Tetrahedra.{tetrahedra}
use Rattle.tetrahedra.specs.ClosedEdges.{inside_at, closed_edges}

-- the same two cells, in the same order
abbrev pub same_edge : Edge → Edge → Bool
same_edge e f = eqb e.first f.first && eqb e.second f.second

-- the number of an edge: its place in the list
unfoldable pub number_in : List Edge → Edge → ℕ
number_in [] e = 0
number_in (f ∷ fs) e = cond (same_edge f e) 0 (suc (number_in fs e))

-- the vertex between two corners of a tetrahedron
unfoldable pub vertex_of : List Edge → Four → Corner → Corner → ℕ
unfolding number_in
vertex_of es t i j = number_in es (pair_of (at t i) (at t j))

-- three numbers, ascending
unfoldable pub rising : ℕ → ℕ → ℕ → Three ℕ
rising x y z =
    cond (leb x y)
    (cond (leb y z) (three x y z) (cond (leb x z) (three x z y) (three z x y)))
    (cond (leb x z) (three y x z) (cond (leb y z) (three y z x) (three z y x)))

-- the corner at a place
abbrev pub nth : List Corner → ℕ → Corner
nth cs n = get_or cs n c0

module _ (vertex : Corner → Corner → ℕ) where
  -- p on its own against three others: one triangle, which names its vertices ascending
  abbrev pub alone : Corner → List Corner → List (Three ℕ)
  alone p cs = rising (vertex p (nth cs 0)) (vertex p (nth cs 1)) (vertex p (nth cs 2)) ∷ []

  -- inside p < q and outside r < s: (pr, ps, qs) and (pr, qs, qr)
  abbrev pub halves : Corner → Corner → Corner → Corner → List (Three ℕ)
  halves p q r s =
      three (vertex p r) (vertex p s) (vertex q s)
      ∷ three (vertex p r) (vertex q s) (vertex q r)
      ∷ []

  -- by how many are inside
  unfoldable pub cut : List Corner → List Corner → List (Three ℕ)
  unfolding rising
  cut ins outs =
      cond (eqb (length ins) 1) (alone (nth ins 0) outs)
      (cond (eqb (length ins) 2) (halves (nth ins 0) (nth ins 1) (nth outs 0) (nth outs 1))
      (cond (eqb (length ins) 3) (alone (nth outs 0) ins)
      []))

  -- of four corners, by a test for inside; the corners that pass and those that fail are ascending, as their keys are
  unfoldable pub cut_by : (Corner → Bool) → List (Three ℕ)
  unfolding cut kept
  cut_by within = cut (kept within corners) (kept (λ (c : Corner). not (within c)) corners)

-- the triangles of one tetrahedron
abbrev pub triangles_of : List Row → List Edge → Four → List (Three ℕ)
triangles_of rows es t = cut_by (vertex_of es t) (λ (c : Corner). inside_at rows (at t c))

-- the triangle list, by the numbers of the vertices
unfoldable pub closed_triangles : List Row → List (Three ℕ)
unfolding joined tetrahedra cut_by vertex_of inside_at
closed_triangles rows = joined (triangles_of rows (closed_edges rows)) (tetrahedra rows)
