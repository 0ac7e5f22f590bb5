-- Where the corners of a tetrahedron stand, seen from its triangles: the inside ones on one side, the outside ones on the other.
-- Assumes nothing.
use Prim.Native.Nat.{ℕ, ◌<◌, ◌≤◌}
use native.Mathlib.Omega.{arith}
use native.Mathlib.Nat.{min-eq_left, max-eq_right}
use mathlib.Core.Path.{◌≡◌, refl, sym, ap, ap₂, ◌∙◌, subst}
use mathlib.Core.Logic.{◌⊎◌, inl, inr, ⊎_elim}
use mathlib.Core.Bool.{Bool, true, false, not, cond, ◌||◌, false≢true}
use mathlib.Core.List.{List}
use lib.Ieee.{unlike}
use lib.ListN.{length}
use borrow.Author.Tests.{eq-eqb}
use Rattle.floats.proofs.Values.{le_or_lt}
use Rattle.lists.specs.Lists.{◌∈◌}
use Rattle.lists.specs.Threes.{Three, three}
use Rattle.lists.proofs.Bools.{cases, or_cases}
use Rattle.search.specs.Keys.{ascending}
use Rattle.table.specs.Table.{Row}
use Rattle.table.specs.Rows.{keys_of}
use Rattle.edges.specs.Edges.{Edge, edge}
use Rattle.edges.specs.EdgeList.{pair_of}
use Rattle.edges.proofs.EdgeLaws.{pair_down}
use Rattle.groups.specs.Groups.{edge_at}
use Rattle.tetrahedra.specs.Fours.{Four, Corner, at, Rising}
use Rattle.tetrahedra.specs.Tetrahedra.{tetrahedra}
use Rattle.tetrahedra.specs.ClosedEdges.{inside_at, closed_edges}
use Rattle.tetrahedra.specs.ClosedTriangles.{number_in, vertex_of}
use Rattle.tetrahedra.proofs.Corners.{eqc, corner_eq, every_corner, at_corner, if_then, other, apart3, all_test, all_tests}
use Rattle.tetrahedra.proofs.Lattice.{CliqueOf}
use Rattle.tetrahedra.proofs.Numbers.{same_edge_lem, number_is, number_small}
use Rattle.tetrahedra.proofs.TetrahedronLaws.{rising_in, clique_in}
use Rattle.tetrahedra.proofs.ClosedEdgeLaws.{crossed_in, edges_distinct}
use Rattle.winding.specs.declared.Spot.{Spot}
use Rattle.winding.specs.Spots.{both, cell_spot, halfway, in_front}
use Rattle.winding.specs.Winding.{middle_of, inside_end, looks_in}
use Rattle.winding.specs.Facing.{left_handed}
use Rattle.winding.specs.Steps.{left_of}
use Rattle.winding.proofs.Running.{odd_order}
use Rattle.winding.proofs.Volume.{Far}
use Rattle.winding.proofs.Sides.{plus_of, clique_flat, unlike_false, fourth_corner, in_any_order}
use Rattle.winding.proofs.SpotLaws.{Stands, in_front_lem, mirrored_first, mirrored_second, mirrored_third, alone_stands, first_stands, second_stands}

-- ---- which corner

-- of three that differ and the fourth, each corner is one
pub one_of_four : (i j k : Corner) → apart3 i j k ≡ true → (c : Corner) → (c ≡ i) ⊎ ((c ≡ j) ⊎ ((c ≡ k) ⊎ (c ≡ other i j k)))
unfolding all_test
one_of_four i j k d c =
    let o : Corner = other i j k in
    let h : (eqc c i || (eqc c j || (eqc c k || eqc c o))) ≡ true =
    if_then (apart3 i j k) (eqc c i || (eqc c j || (eqc c k || eqc c o)))
    (at_corner (λ c. all_test i j k c)
    (at_corner (λ k. every_corner (λ c. all_test i j k c))
    (at_corner (λ j. every_corner (λ k. every_corner (λ c. all_test i j k c)))
    (at_corner (λ i. every_corner (λ j. every_corner (λ k. every_corner (λ c. all_test i j k c)))) all_tests i) j) k) c) d in
    ⊎_elim (λ e. inl (corner_eq c i e))
    (λ r. ⊎_elim (λ e. inr (inl (corner_eq c j e)))
    (λ s. ⊎_elim (λ e. inr (inr (inl (corner_eq c k e)))) (λ e. inr (inr (inr (corner_eq c o e)))) (or_cases (eqc c k) (eqc c o) s))
    (or_cases (eqc c j) (eqc c k || eqc c o) r)) (or_cases (eqc c i) (eqc c j || (eqc c k || eqc c o)) h)

-- ---- points halfway

spot_same : {a b c d e f : ℕ} → a ≡ b → c ≡ d → e ≡ f → ◌≡◌ {A = Spot} (record { x = a; y = c; z = e }) (record { x = b; y = d; z = f })
spot_same p q r = rw (p, q, r)

halfway_either : (k l : ℕ) → halfway k l ≡ halfway l k
halfway_either k l = spot_same (omega arith) (omega arith) (omega arith)

-- a cell and another stand on either side of what is halfway
opposite : (k l : ℕ) → both (halfway k k) (halfway l l) ≡ both (halfway k l) (halfway k l)
opposite k l = spot_same (omega arith) (omega arith) (omega arith)

opposite_back : (k l : ℕ) → both (halfway k k) (halfway l l) ≡ both (halfway l k) (halfway l k)
opposite_back k l = opposite k l ∙ ap (λ (s : Spot). both s s) (halfway_either k l)

pair_le : (a b : ℕ) → a ≤ b → pair_of a b ≡ edge a b
pair_le a b l = ap₂ edge (min-eq_left l) (max-eq_right l)

pair_halfway : (a b : ℕ) → halfway (pair_of a b).first (pair_of a b).second ≡ halfway a b
pair_halfway a b =
    ⊎_elim (λ l. ap (λ (e : Edge). halfway e.first e.second) (pair_le a b l))
    (λ l. ap (λ (e : Edge). halfway e.first e.second) (pair_down l) ∙ halfway_either b a) (le_or_lt a b)

-- ---- the same points

stands_same : (s : Bool) {a a' b b' c c' : Spot} → a' ≡ a → b' ≡ b → c' ≡ c → (p : Spot) → Stands s a b c p → Stands s a' b' c' p
stands_same s {a} {a'} {b} {b'} {c} {c'} ea eb ec p h =
    subst (λ (x : Spot). Stands s x b' c' p) (sym ea)
    (subst (λ (x : Spot). Stands s a x c' p) (sym eb) (subst (λ (x : Spot). Stands s a b x p) (sym ec) h))

front_same :
    {a a' b b' c c' : Spot} {k k' : ℕ}
    → a' ≡ a
    → b' ≡ b
    → c' ≡ c
    → k' ≡ k
    → in_front a' b' c' (halfway k' k') ≡ in_front a b c (halfway k k)
front_same ea eb ec ek = rw (ea, eb, ec, ek)

-- ---- Booleans

pub unlike_true : (a : Bool) → unlike a true ≡ not a
unlike_true true = refl
unlike_true false = refl

unlike_twice : (h x : Bool) → unlike (unlike h x) x ≡ h
unlike_twice true true = refl
unlike_twice true false = refl
unlike_twice false true = refl
unlike_twice false false = refl

unlike_other : (h x y : Bool) → unlike x y ≡ true → unlike (unlike h (not x)) (not y) ≡ not h
unlike_other true true true e = absurd (false≢true e)
unlike_other true true false e = refl
unlike_other true false true e = refl
unlike_other true false false e = absurd (false≢true e)
unlike_other false true true e = absurd (false≢true e)
unlike_other false true false e = refl
unlike_other false false true e = refl
unlike_other false false false e = absurd (false≢true e)

inner_end : (x y : Bool) (a b : ℕ) → unlike x y ≡ true → cond y b a ≡ cond x a b
inner_end true true a b e = absurd (false≢true e)
inner_end true false a b e = refl
inner_end false true a b e = refl
inner_end false false a b e = absurd (false≢true e)

-- ---- of one tetrahedron of a table

module _ (rows : List Row) (up : ascending (keys_of rows) ≡ true) (t : Four) (m : t ∈ tetrahedra rows) where
  abbrev pub es : List Edge
  es = closed_edges rows

  abbrev pub inner : Corner → Bool
  inner c = inside_at rows (at t c)

  abbrev pub vertex : Corner → Corner → ℕ
  vertex i j = vertex_of es t i j

  ris : Rising t
  ris = rising_in rows up t m

  cl : CliqueOf t
  cl = clique_in rows up t m

  abbrev Cross : Corner → Corner → Type 0
  Cross i j = unlike (inner i) (inner j) ≡ true

  -- ---- the vertex of a crossed edge

  module _ (i j : Corner) (x : Cross i j) where
    vertex_in_lem : pair_of (at t i) (at t j) ∈ es
    vertex_in_lem = crossed_in rows up t i j (record { listed = m; crossed = x })

    pub vertex_small : vertex i j < length es
    unfolding vertex_of
    vertex_small = number_small es (pair_of (at t i) (at t j)) vertex_in_lem

    pub vertex_edge : edge_at es (vertex i j) ≡ pair_of (at t i) (at t j)
    unfolding vertex_of
    vertex_edge =
        let u = number_in es (pair_of (at t i) (at t j)) in
        sym (same_edge_lem (pair_of (at t i) (at t j)) (edge_at es u)
        (sym (number_is es (edges_distinct rows up) (pair_of (at t i) (at t j)) u vertex_small) ∙ eq-eqb u u refl))

    vertex_middle : middle_of es (vertex i j) ≡ halfway (at t i) (at t j)
    vertex_middle = ap (λ (e : Edge). halfway e.first e.second) vertex_edge ∙ pair_halfway (at t i) (at t j)

    -- its inside end is the corner that is inside
    inside_end_lem : inside_end rows (edge_at es (vertex i j)) ≡ cond (inner i) (at t i) (at t j)
    inside_end_lem =
        ap (inside_end rows) vertex_edge
        ∙ ⊎_elim (λ l. ap (inside_end rows) (pair_le (at t i) (at t j) l))
        (λ l. ap (inside_end rows) (pair_down l) ∙ inner_end (inner i) (inner j) (at t i) (at t j) x) (le_or_lt (at t i) (at t j))

  -- ---- all corners

  -- seen from three points the inside corners stand in front where k says so, and the outside ones behind
  abbrev Stood : Spot → Spot → Spot → Bool → Type 0
  Stood a b c k = (v : Corner) → Stands (unlike k (not (inner v))) a b c (halfway (at t v) (at t v))

  abbrev half : Corner → Corner → Spot
  half i j = halfway (at t i) (at t j)

  abbrev own : Corner → Spot
  own i = half i i

  at_inner : (a b c : Spot) (k : Bool) → Stood a b c k → (i j : Corner) → Cross i j
      → in_front a b c (halfway (cond (inner i) (at t i) (at t j)) (cond (inner i) (at t i) (at t j))) ≡ k
  at_inner a b c k s i j x = go (inner i) (inner j) refl refl x
    where
      same : (v : Corner) → inner v ≡ true → in_front a b c (own v) ≡ k
      same v e = in_front_lem (unlike k (not (inner v))) a b c (own v) (s v) ∙ ap (λ (w : Bool). unlike k (not w)) e ∙ unlike_false k

      go : (p q : Bool) → inner i ≡ p → inner j ≡ q → unlike p q ≡ true
          → in_front a b c (halfway (cond p (at t i) (at t j)) (cond p (at t i) (at t j))) ≡ k
      go true q e f x = same i e
      go false true e f x = same j f
      go false false e f x = absurd (false≢true x)

  -- a triangle by its corners, and which way it looks
  pub record Seen (f : Three ℕ) (k : Bool) : Type 0 where
    pub stood : Stood (middle_of es f.a) (middle_of es f.b) (middle_of es f.c) k
    pub looks : looks_in rows es f ≡ k

  seen : (i j u v y z : Corner) → Cross i j → Cross u v → Cross y z → (k : Bool)
      → Stood (half i j) (half u v) (half y z) k
      → Seen (three (vertex i j) (vertex u v) (vertex y z)) k
  unfolding looks_in
  seen i j u v y z x x' x'' k s =
      let a = vertex_middle i j x in
      let b = vertex_middle u v x' in
      let c = vertex_middle y z x'' in
      record {
        stood = λ w. stands_same (unlike k (not (inner w))) a b c (own w) (s w);
        looks = front_same a b c (inside_end_lem i j x) ∙ at_inner (half i j) (half u v) (half y z) k s i j x;
      }

  -- a corner by another name
  put : (a b c : Spot) (k : Bool) (v : Corner) {w : Corner} {x : Bool} → v ≡ w → x ≡ unlike k (not (inner w)) → Stands x a b c (own w)
      → Stands (unlike k (not (inner v))) a b c (own v)
  put a b c k v {w} {x} e f h =
      subst (λ (u : Corner). Stands (unlike k (not (inner u))) a b c (own u)) (sym e) (subst (λ (y : Bool). Stands y a b c (own w)) f h)

  -- ---- one corner against three others

  flat : (p a b : Corner) → apart3 p a b ≡ true
      → Far (plus_of (at t p) (at t a) (at t b) (at t (other p a b))) (plus_of (at t a) (at t p) (at t b) (at t (other p a b)))
  flat p a b d = clique_flat (at t p) (at t a) (at t b) (at t (other p a b)) (fourth_corner t ris cl p a b d).clique

  module _ (p a b : Corner) (d : apart3 p a b ≡ true) where
    abbrev o : Corner
    o = other p a b

    -- the handedness of the four in this order
    abbrev hand : Bool
    hand = left_handed (at t p) (at t a) (at t b) (at t o)

    pub hand_is : hand ≡ unlike (left_of t) (odd_order p a b o)
    hand_is = in_any_order t cl p a b d

    module _ (xa : Cross p a) (xb : Cross p b) (xo : Cross p o) where
      abbrev alone_k : Bool
      alone_k = unlike hand (not (inner p))

      alone_stood : Stood (half p a) (half p b) (half p o) alone_k
      unfolding left_handed in_front plus_of
      alone_stood v =
          let s = alone_stands (cell_spot (at t p)) (cell_spot (at t a)) (cell_spot (at t b)) (cell_spot (at t o)) (flat p a b d) in
          ⊎_elim (λ e. put _ _ _ alone_k v e (sym (unlike_twice hand (not (inner p)))) s)
          (λ r.
          ⊎_elim (λ e. put _ _ _ alone_k v e (sym (unlike_other hand (inner p) (inner a) xa))
          (mirrored_first hand _ _ _ (own p) (own a) (opposite (at t p) (at t a)) s))
          (λ r.
          ⊎_elim (λ e. put _ _ _ alone_k v e (sym (unlike_other hand (inner p) (inner b) xb))
          (mirrored_second hand _ _ _ (own p) (own b) (opposite (at t p) (at t b)) s))
          (λ e. put _ _ _ alone_k v e (sym (unlike_other hand (inner p) (inner o) xo))
          (mirrored_third hand _ _ _ (own p) (own o) (opposite (at t p) (at t o)) s)) r) r)
          (one_of_four p a b d v)

      pub alone_seen : Seen (three (vertex p a) (vertex p b) (vertex p o)) alone_k
      alone_seen = seen p a p b p o xa xb xo alone_k alone_stood

    -- ---- two inside against two outside: p and a against b and the fourth

    module _ (ip : inner p ≡ true) (ia : inner a ≡ true) (ob : inner b ≡ false) (oo : inner o ≡ false) where
      crossing : (i j : Corner) → inner i ≡ true → inner j ≡ false → Cross i j
      crossing i j e f = rw (e, f)

      inside_k : (v : Corner) → inner v ≡ true → hand ≡ unlike hand (not (inner v))
      inside_k v e = rw e (sym (unlike_false hand))

      outside_k : (v : Corner) → inner v ≡ false → not hand ≡ unlike hand (not (inner v))
      outside_k v e = rw e (sym (unlike_true hand))

      twice : not (not hand) ≡ hand
      twice = cases (λ (x : Bool). not (not x) ≡ x) hand (λ e. refl) (λ e. refl)

      first_stood : Stood (half p b) (half p o) (half a o) hand
      unfolding left_handed in_front plus_of
      first_stood v =
          let s = first_stands (cell_spot (at t p)) (cell_spot (at t a)) (cell_spot (at t b)) (cell_spot (at t o)) (flat p a b d) in
          let at-o = mirrored_second hand (half p b) (half p o) (half a o) (own p) (own o) (opposite (at t p) (at t o)) s in
          let at_a = mirrored_third (not hand) (half p b) (half p o) (half a o) (own o) (own a) (opposite_back (at t o) (at t a)) at-o in
          ⊎_elim (λ e. put _ _ _ hand v e (inside_k p ip) s)
          (λ r.
          ⊎_elim (λ e. put _ _ _ hand v e (twice ∙ inside_k a ia) at_a)
          (λ r.
          ⊎_elim (λ e. put _ _ _ hand v e (outside_k b ob)
          (mirrored_first hand (half p b) (half p o) (half a o) (own p) (own b) (opposite (at t p) (at t b)) s))
          (λ e. put _ _ _ hand v e (outside_k o oo) at-o) r) r)
          (one_of_four p a b d v)

      second_stood : Stood (half p b) (half a o) (half a b) hand
      unfolding left_handed in_front plus_of
      second_stood v =
          let s = second_stands (cell_spot (at t p)) (cell_spot (at t a)) (cell_spot (at t b)) (cell_spot (at t o)) (flat p a b d) in
          let at_b = mirrored_first hand (half p b) (half a o) (half a b) (own p) (own b) (opposite (at t p) (at t b)) s in
          let at_a = mirrored_third (not hand) (half p b) (half a o) (half a b) (own b) (own a) (opposite_back (at t b) (at t a)) at_b in
          ⊎_elim (λ e. put _ _ _ hand v e (inside_k p ip) s)
          (λ r.
          ⊎_elim (λ e. put _ _ _ hand v e (twice ∙ inside_k a ia) at_a)
          (λ r.
          ⊎_elim (λ e. put _ _ _ hand v e (outside_k b ob) at_b)
          (λ e. put _ _ _ hand v e (ap not twice ∙ outside_k o oo)
          (mirrored_second (not (not hand)) (half p b) (half a o) (half a b) (own a) (own o) (opposite (at t a) (at t o)) at_a)) r) r)
          (one_of_four p a b d v)

      pub first_seen : Seen (three (vertex p b) (vertex p o) (vertex a o)) hand
      first_seen = seen p b p o a o (crossing p b ip ob) (crossing p o ip oo) (crossing a o ia oo) hand first_stood

      pub second_seen : Seen (three (vertex p b) (vertex a o) (vertex a b)) hand
      second_seen = seen p b a o a b (crossing p b ip ob) (crossing a o ia oo) (crossing a b ia ob) hand second_stood
