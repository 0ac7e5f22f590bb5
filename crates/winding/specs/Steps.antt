-- What serves the proofs alone: the same turning by a rule of each tetrahedron's handedness and signs, which no place of a vertex enters.
use Rattle.std.specs.Prelude.{ℕ, ◌≤◌, Bool, true, false, not, ◌&&◌, List, [], map, eqb, leb, length}
use Rattle.std.proofs.Math.Bool.{cond}
use Rattle.std.specs.Float.Ieee.{unlike}
use Rattle.lists.specs.Lists.{kept}
use Rattle.lists.specs.Threes.{Three}
use Rattle.table.specs.Table.{Row}
use Rattle.edges.specs.Edges.{Edge}
use Rattle.tetrahedra.specs.Fours.{Four, Corner, c0, c1, c2, c3, corners, at}
use Rattle.tetrahedra.specs.ClosedEdges.{inside_at}
use Rattle.tetrahedra.specs.ClosedTriangles.{vertex_of, rising, nth, alone, halves}
use Rattle.winding.specs.declared.Spot.{Spot}
use Rattle.winding.specs.Facing.{left_handed}
use Rattle.winding.specs.Winding.{turn_if}

-- coordinates that two cells add up to
pub record Small (a : Spot) : Type 0 where
  pub x : a.x ≤ 131070
  pub y : a.y ≤ 131070
  pub z : a.z ≤ 131070

abbrev pub left_of : Four → Bool
left_of t = left_handed t.a t.b t.c t.d

-- whether three numbers are brought in ascending order by an odd permutation
unfoldable pub odd_rising : ℕ → ℕ → ℕ → Bool
odd_rising x y z =
    cond (leb x y)
    (cond (leb y z) false (cond (leb x z) true false))
    (cond (leb x z) true (cond (leb y z) false true))

-- whether the inside corners, ascending, and then the outside ones are an odd permutation of the four: a pair counts where an outside corner stands before an
-- inside one
unfoldable pub odd_signs : (Corner → Bool) → Bool
odd_signs w =
    unlike (not (w c0) && w c1)
    (unlike (not (w c0) && w c2) (unlike (not (w c0) && w c3) (unlike (not (w c1) && w c2) (unlike (not (w c1) && w c3) (not (w c2) && w c3)))))

module _ (vertex : Corner → Corner → ℕ) (f : Bool) where
  -- one triangle, whose vertices No. 14 sorts
  abbrev pub turn_alone : Corner → List Corner → List (Three ℕ)
  turn_alone p cs =
      map (turn_if (unlike f (odd_rising (vertex p (nth cs 0)) (vertex p (nth cs 1)) (vertex p (nth cs 2))))) (alone vertex p cs)

  -- the two of a quad
  abbrev pub turn_halves : Corner → Corner → Corner → Corner → List (Three ℕ)
  turn_halves p q r s = map (turn_if f) (halves vertex p q r s)

  -- as `cut` of No. 14, each triangle turned where needed
  unfoldable pub turn_cut : List Corner → List Corner → List (Three ℕ)
  unfolding rising turn_if odd_rising
  turn_cut ins outs =
      cond (eqb (length ins) 1) (turn_alone (nth ins 0) outs)
      (cond (eqb (length ins) 2) (turn_halves (nth ins 0) (nth ins 1) (nth outs 0) (nth outs 1))
      (cond (eqb (length ins) 3) (turn_alone (nth outs 0) ins)
      []))

-- of four corners, by the tetrahedron's handedness and a test for inside
unfoldable pub turn_by : (Corner → Corner → ℕ) → Bool → (Corner → Bool) → List (Three ℕ)
unfolding turn_cut kept odd_signs
turn_by vertex left within =
    turn_cut vertex (unlike left (odd_signs within)) (kept within corners) (kept (λ (c : Corner). not (within c)) corners)

abbrev pub ruled_of : List Row → List Edge → Four → List (Three ℕ)
ruled_of rows es t = turn_by (vertex_of es t) (left_of t) (λ (c : Corner). inside_at rows (at t c))
