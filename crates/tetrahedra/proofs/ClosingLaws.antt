-- The surface closes: every side that lies inside a tetrahedron, or on a face that two share, belongs to exactly two triangles.
-- Assumes nothing.
use Prim.Native.Nat.{ℕ, ◌<◌, ◌≤◌, min, max}
use native.Mathlib.Nat.{le_of_lt, min-eq_left, min-eq_right, max-eq_left, max-eq_right}
use native.Mathlib.Omega.{arith}
use mathlib.Core.Path.{◌≡◌, refl, sym, ap, ap₂, ◌∙◌, fun_ext}
use mathlib.Core.Logic.{◌⊎◌, inl, inr, ⊎_elim}
use mathlib.Core.Bool.{Bool, true, false, ◌&&◌, ◌||◌}
use mathlib.Core.List.Memᴰ
use mathlib.Core.List.{List, [], ◌∷◌}
use lib.Dec.{eqb}
use lib.Ieee.{unlike}
use lib.ListN.{length}
use borrow.Author.Tests.{eqb-true, eqb-false}
use Rattle.floats.proofs.Values.{le_or_lt}
use Rattle.lists.specs.Lists.{◌∈◌, Ordered, Distinct, All, kept}
use Rattle.lists.proofs.ListLaws.{at_in, joined_in, in_kept}
use Rattle.lists.proofs.Bools.{cases, and_first, and_second}
use Rattle.search.specs.Keys.{ascending}
use Rattle.table.specs.Table.{Row}
use Rattle.table.specs.Rows.{keys_of}
use Rattle.edges.specs.Edges.{Edge, edge}
use Rattle.edges.specs.EdgeList.{pair_of}
use Rattle.edges.proofs.EdgeLaws.{pair_up}
use Rattle.edges.proofs.ZeroCrossingLaws.{unlike_comm}
use Rattle.groups.specs.Groups.{edge_at}
use Rattle.lists.specs.Threes.{Three}
use Rattle.tetrahedra.specs.Fours.{Four, Corner, at, Rising, holds}
use Rattle.tetrahedra.specs.Tetrahedra.{tetrahedra}
use Rattle.tetrahedra.specs.ClosedEdges.{inside_at, closed_edges}
use Rattle.tetrahedra.specs.ClosedTriangles.{same_edge, vertex_of, triangles_of, closed_triangles}
use Rattle.tetrahedra.specs.Closing.{names, has_side, IsSide, triangles_with, ends, Around, Within, OnFace, Closes}
use Rattle.tetrahedra.proofs.Lattice.{common_two}
use Rattle.tetrahedra.proofs.Corners.{eqc, holds_corner, not_held, at_eqb, corners_differ, corners_same, Fourth, fourth, same_fourth}
use Rattle.tetrahedra.proofs.Counting.{sum_of, kept_joined, not_empty, sum_one, sum_two}
use Rattle.tetrahedra.proofs.Numbers.{not_same, pair_same, number_is, number_small, place_once}
use Rattle.tetrahedra.proofs.Local.{counts_by, side_cut_by, none_left, none_right, same_pair, meets, face_count, inner_count}
use Rattle.tetrahedra.proofs.TetrahedronLaws.{tetrahedra_are, rising_in, clique_in}
use Rattle.tetrahedra.proofs.ClosedEdgeLaws.{crossed_in, in_crossed, vertices_are, edges_distinct}
use Rattle.tetrahedra.proofs.CutLaws.{cut_between}

-- ---- small things

-- a test of two numbers that differ, of the smaller and the larger
unlike_pair : (g : ℕ → Bool) (a b : ℕ) → unlike (g a) (g b) ≡ true → unlike (g (min a b)) (g (max a b)) ≡ true
unlike_pair g a b e =
    ⊎_elim
    (λ (l : a ≤ b).
    let p : min a b ≡ a = min-eq_left l in
    let q : max a b ≡ b = max-eq_right l in
    rw (p, q) e)
    (λ (l : b < a).
    let p : min a b ≡ b = min-eq_right (le_of_lt l) in
    let q : max a b ≡ a = max-eq_left (le_of_lt l) in
    rw (p, q) (unlike_comm (g b) (g a) ∙ e))
    (le_or_lt a b)

-- a smaller or larger of two is one of them
min_one : (a b k : ℕ) → min a b ≡ k → (a ≡ k) ⊎ (b ≡ k)
min_one a b k e = ⊎_elim (λ l. inl (omega arith)) (λ l. inr (omega arith)) (le_or_lt a b)

max_one : (a b k : ℕ) → max a b ≡ k → (a ≡ k) ⊎ (b ≡ k)
max_one a b k e = ⊎_elim (λ l. inr (omega arith)) (λ l. inl (omega arith)) (le_or_lt a b)

-- pairs of corners and pairs of their keys
pub pair_corners : (t : Four) → Rising t → (i j k l : Corner) → same_edge (pair_of (at t i) (at t j)) (pair_of (at t k) (at t l)) ≡ same_pair k l i j
unfolding same_pair
pair_corners t up i j k l =
    pair_same (at t i) (at t j) (at t k) (at t l) ∙ rw (at_eqb t up i k, at_eqb t up j l, at_eqb t up i l, at_eqb t up j k)

and4_false : (a b c d : Bool) → a && (b && (c && d)) ≡ false → (a ≡ false) ⊎ ((b ≡ false) ⊎ ((c ≡ false) ⊎ (d ≡ false)))
and4_false false b c d e = inl refl
and4_false true false c d e = inr (inl refl)
and4_false true true false d e = inr (inr (inl refl))
and4_false true true true d e = inr (inr (inr e))

or4_true : (a b c d : Bool) → (a ≡ true) ⊎ ((b ≡ true) ⊎ ((c ≡ true) ⊎ (d ≡ true))) → a || (b || (c || d)) ≡ true
or4_true true b c d h = refl
or4_true false true c d h = refl
or4_true false false true d h = refl
or4_true false false false true h = refl
or4_true false false false false (inl e) = e
or4_true false false false false (inr (inl e)) = e
or4_true false false false false (inr (inr (inl e))) = e
or4_true false false false false (inr (inr (inr e))) = e

-- four numbers, two by two in order, all differ or one of the first two is one of the others
pub apart_or_meeting : (a b c d : ℕ) → a < b → c < d → Distinct (a ∷ b ∷ c ∷ d ∷ []) ⊎ ((a ≡ c) ⊎ ((a ≡ d) ⊎ ((b ≡ c) ⊎ (b ≡ d))))
unfolding Ordered
apart_or_meeting a b c d ab cd = go (eqb a c) (eqb a d) (eqb b c) (eqb b d) refl refl refl refl
  where
    go : (p q r s : Bool) → eqb a c ≡ p → eqb a d ≡ q → eqb b c ≡ r → eqb b d ≡ s → Distinct (a ∷ b ∷ c ∷ d ∷ []) ⊎ ((a ≡ c) ⊎ ((a ≡ d) ⊎ ((b ≡ c) ⊎ (b ≡ d))))
    go true q r s e f g h = inr (inl (eqb-true a c e))
    go false true r s e f g h = inr (inr (inl (eqb-true a d f)))
    go false false true s e f g h = inr (inr (inr (inl (eqb-true b c g))))
    go false false false true e f g h = inr (inr (inr (inr (eqb-true b d h))))
    go false false false false e f g h =
        inl (
          in3 a b c d (λ q. omega arith) (eqb-false a c e) (eqb-false a d f),
          (
            in2 b c d (eqb-false b c g) (eqb-false b d h),
            (in1 c d (λ q. omega arith), (λ y m. absurd (Memᴰ.not-nil m), tt)),
          ),
        )
      where
        in1 : (k l : ℕ) → (k ≡ l → ⊥) → (y : ℕ) → y ∈ (l ∷ []) → k ≡ y → ⊥
        in1 k l n y m q = n (q ∙ Memᴰ.eq_of_singleton m)

        in2 : (k l m : ℕ) → (k ≡ l → ⊥) → (k ≡ m → ⊥) → (y : ℕ) → y ∈ (l ∷ m ∷ []) → k ≡ y → ⊥
        in2 k l m n o y i q = ⊎_elim (λ e. n (q ∙ e)) (λ j. in1 k m o y j q) (Memᴰ.cases_cons i)

        in3 : (k l m n : ℕ) → (k ≡ l → ⊥) → (k ≡ m → ⊥) → (k ≡ n → ⊥) → (y : ℕ) → y ∈ (l ∷ m ∷ n ∷ []) → k ≡ y → ⊥
        in3 k l m n o p' r' y i q = ⊎_elim (λ e. o (q ∙ e)) (λ j. in2 k m n p' r' y j q) (Memᴰ.cases_cons i)

module _ (rows : List Row) (up : ascending (keys_of rows) ≡ true) where
  abbrev pub es : List Edge
  es = closed_edges rows

  abbrev pub ts : List Four
  ts = tetrahedra rows

  -- ---- a vertex and its edge

  abbrev pub edge_of : ℕ → Edge
  edge_of u = edge_at es u

  edge_in : (u : ℕ) → u < length es → edge_of u ∈ es
  edge_in u l = at_in es (edge 0 0) u l

  pub edge_up : (u : ℕ) → u < length es → (edge_of u).first < (edge_of u).second
  edge_up u l = (vertices_are rows up).smaller (edge_of u) (edge_in u l)

  -- one of its ends is inside and the other outside
  pub edge_crossed : (u : ℕ) → u < length es → unlike (inside_at rows (edge_of u).first) (inside_at rows (edge_of u).second) ≡ true
  edge_crossed u l =
      let h = in_crossed rows up (edge_of u) (edge_in u l) in
      let t : Four = h.0 in
      rw (ap (λ (e : Edge). e.first) h.4, ap (λ (e : Edge). e.second) h.4)
      (unlike_pair (inside_at rows) (at t h.1) (at t h.2) h.3.crossed)

  -- ---- the triangles of one tetrahedron that have a side

  abbrev pub within : Four → Corner → Bool
  within t c = inside_at rows (at t c)

  -- how many
  abbrev pub sides_of : ℕ → ℕ → Four → ℕ
  sides_of u v t = length (kept (has_side u v) (triangles_of rows es t))

  -- the pairs of corners that lie on the edge of a vertex
  unfoldable pub on_edge_lem : ℕ → Four → Corner → Corner → Bool
  on_edge_lem u t i j = same_edge (pair_of (at t i) (at t j)) (edge_of u)

  pub on_edge : (u : ℕ) → u < length es → (t : Four) → (λ (i j : Corner). eqb (vertex_of es t i j) u) ≡ on_edge_lem u t
  unfolding on_edge_lem vertex_of
  on_edge u l t = fun_ext (λ i. fun_ext (λ j. number_is es (edges_distinct rows up) (pair_of (at t i) (at t j)) u l))

  sides_are : (u v : ℕ) → u < length es → v < length es → (t : Four) → sides_of u v t ≡ counts_by (on_edge_lem u t) (on_edge_lem v t) (within t)
  sides_are u v lu lv t =
      side_cut_by (vertex_of es t) u v (within t)
      ∙ ap₂ (λ (b c : Corner → Corner → Bool). counts_by b c (within t)) (on_edge u lu t) (on_edge v lv t)

  -- an end that is no corner
  pub away : (u : ℕ) (t : Four) → (holds (edge_of u).first t ≡ false) ⊎ (holds (edge_of u).second t ≡ false) → on_edge_lem u t ≡ (λ (i j : Corner). false)
  unfolding on_edge_lem
  away u t h = fun_ext (λ i. fun_ext (λ j. not_same (pair_of (at t i) (at t j)) (edge_of u) (λ e. no i j e h)))
    where
      no : (i j : Corner) → pair_of (at t i) (at t j) ≡ edge_of u → (holds (edge_of u).first t ≡ false) ⊎ (holds (edge_of u).second t ≡ false) → ⊥
      no i j e (inl f) =
          ⊎_elim (λ p. not_held (edge_of u).first t f i p) (λ p. not_held (edge_of u).first t f j p)
          (min_one (at t i) (at t j) (edge_of u).first (ap (λ (x : Edge). x.first) e))
      no i j e (inr f) =
          ⊎_elim (λ p. not_held (edge_of u).second t f i p) (λ p. not_held (edge_of u).second t f j p)
          (max_one (at t i) (at t j) (edge_of u).second (ap (λ (x : Edge). x.second) e))

  -- the two corners where the edge of a vertex ends
  pub record Seen (u : ℕ) (t : Four) : Type 0 where
    pub i : Corner
    pub j : Corner
    pub first : at t i ≡ (edge_of u).first
    pub second : at t j ≡ (edge_of u).second

  pub seen : (u : ℕ) (t : Four) → holds (edge_of u).first t ≡ true → holds (edge_of u).second t ≡ true → Seen u t
  seen u t h g =
      let p = holds_corner (edge_of u).first t h in
      let q = holds_corner (edge_of u).second t g in
      record { i = p.0; j = q.0; first = p.1; second = q.1 }

  seen_edge : (u : ℕ) → u < length es → (t : Four) (s : Seen u t) → edge_of u ≡ pair_of (at t s.i) (at t s.j)
  seen_edge u l t s = rw (s.first, s.second) (sym (pair_up (edge_up u l)))

  pub seen_pairs : (u : ℕ) → u < length es → (t : Four) → Rising t → (s : Seen u t) → on_edge_lem u t ≡ same_pair s.i s.j
  unfolding on_edge_lem
  seen_pairs u l t r s =
      fun_ext (λ a. fun_ext (λ b. ap (same_edge (pair_of (at t a) (at t b))) (seen_edge u l t s) ∙ pair_corners t r a b s.i s.j))

  pub seen_crossed : (u : ℕ) → u < length es → (t : Four) (s : Seen u t) → unlike (within t s.i) (within t s.j) ≡ true
  seen_crossed u l t s = rw (s.first, s.second) (edge_crossed u l)

  -- ---- the vertices that a triangle names have their places in the list

  pub side_small : (t : Three ℕ) → t ∈ closed_triangles rows → (u : ℕ) → names u t ≡ true → u < length es
  unfolding closed_triangles vertex_of
  side_small t m u e =
      let j = joined_in (triangles_of rows es) ts m in
      let c : Four = j.0 in
      let b = cut_between (vertex_of es c) (within c) t u j.2 e in
      let k = crossed_in rows up c b.i b.j (record { listed = j.1; crossed = b.crossed }) in
      rw (← b.vertex_is) (number_small es (pair_of (at c b.i) (at c b.j)) k)

  -- ---- all triangles that have a side

  all_sides : (u v : ℕ) → triangles_with (closed_triangles rows) u v ≡ sum_of (sides_of u v) ts
  unfolding closed_triangles
  all_sides u v = kept_joined (has_side u v) (triangles_of rows es) ts

  module _ (u v : ℕ) (lu : u < length es) (lv : v < length es) (un : u ≡ v → ⊥) where
    pub edges_differ : edge_of u ≡ edge_of v → ⊥
    edges_differ q = un (place_once es (edges_distinct rows up) u v lu lv q)

    -- a tetrahedron that has all corners of the two edges
    pub record Held (t : Four) : Type 0 where
      pub listed : t ∈ ts
      pub u1 : holds (edge_of u).first t ≡ true
      pub u2 : holds (edge_of u).second t ≡ true
      pub v1 : holds (edge_of v).first t ≡ true
      pub v2 : holds (edge_of v).second t ≡ true

    unfoldable pub around_test : Four → Bool
    around_test t = holds (edge_of u).first t && (holds (edge_of u).second t && (holds (edge_of v).first t && holds (edge_of v).second t))

    pub held_by : (t : Four) → t ∈ ts → around_test t ≡ true → Held t
    unfolding around_test
    held_by t m e =
        let a = holds (edge_of u).first t in
        let b = holds (edge_of u).second t in
        let c = holds (edge_of v).first t in
        let d = holds (edge_of v).second t in
        let r = and_second a (b && (c && d)) e in
        let s = and_second b (c && d) r in
        record { listed = m; u1 = and_first a (b && (c && d)) e; u2 = and_first b (c && d) r; v1 = and_first c d s; v2 = and_second c d s }

    -- one that has not all has no triangle with the side
    pub none_there : (t : Four) → around_test t ≡ false → sides_of u v t ≡ 0
    unfolding around_test
    none_there t e =
        let left : (holds (edge_of u).first t ≡ false) ⊎ (holds (edge_of u).second t ≡ false) → sides_of u v t ≡ 0 =
        λ h. sides_are u v lu lv t ∙ ap (λ (b : Corner → Corner → Bool). counts_by b (on_edge_lem v t) (within t)) (away u t h) ∙ none_left (on_edge_lem v t)
        (within t) in
        let right : (holds (edge_of v).first t ≡ false) ⊎ (holds (edge_of v).second t ≡ false) → sides_of u v t ≡ 0 =
        λ h. sides_are u v lu lv t ∙ ap (λ (b : Corner → Corner → Bool). counts_by (on_edge_lem u t) b (within t)) (away v t h) ∙ none_right (on_edge_lem u t)
        (within t) in
        ⊎_elim (λ h. left (inl h)) (λ r. ⊎_elim (λ h. left (inr h)) (λ s. ⊎_elim (λ h. right (inl h)) (λ h. right (inr h)) s) r)
        (and4_false (holds (edge_of u).first t) (holds (edge_of u).second t) (holds (edge_of v).first t) (holds (edge_of v).second t) e)

    module _ (t : Four) (h : Held t) where
      pub r : Rising t
      r = rising_in rows up t h.listed

      pub su : Seen u t
      su = seen u t h.u1 h.u2

      pub sv : Seen v t
      sv = seen v t h.v1 h.v2

      pub counts_here : sides_of u v t ≡ counts_by (same_pair su.i su.j) (same_pair sv.i sv.j) (within t)
      counts_here =
          sides_are u v lu lv t
          ∙ ap₂ (λ (b c : Corner → Corner → Bool). counts_by b c (within t)) (seen_pairs u lu t r su) (seen_pairs v lv t r sv)

      differ_here : same_pair su.i su.j sv.i sv.j ≡ false
      differ_here =
          sym (pair_corners t r sv.i sv.j su.i su.j)
          ∙ not_same (pair_of (at t sv.i) (at t sv.j)) (pair_of (at t su.i) (at t su.j))
          (λ q. edges_differ (seen_edge u lu t su ∙ sym q ∙ sym (seen_edge v lv t sv)))

      -- where the edges meet, one triangle
      one_here : OnFace es u v → sides_of u v t ≡ 1
      unfolding meets
      one_here f =
          counts_here
          ∙ face_count (within t) su.i su.j sv.i sv.j (seen_crossed u lu t su) (seen_crossed v lv t sv) differ_here
          (or4_true (eqc su.i sv.i) (eqc su.i sv.j) (eqc su.j sv.i) (eqc su.j sv.j)
          (⊎_elim (λ p. inl (corners_same t r su.i sv.i (su.first ∙ p ∙ sym sv.first)))
          (λ x. ⊎_elim (λ p. inr (inl (corners_same t r su.i sv.j (su.first ∙ p ∙ sym sv.second))))
          (λ y. ⊎_elim (λ p. inr (inr (inl (corners_same t r su.j sv.i (su.second ∙ p ∙ sym sv.first)))))
          (λ p. inr (inr (inr (corners_same t r su.j sv.j (su.second ∙ p ∙ sym sv.second))))) y) x) f))

      -- where they do not, two or none
      pub two_here : Within es u v → (sides_of u v t ≡ 0 → ⊥) → sides_of u v t ≡ 2
      unfolding meets Ordered
      two_here d n =
          let a = corners_differ t r su.i sv.i (λ q. d.0 (edge_of v).first (Memᴰ.tail (Memᴰ.head refl)) (sym su.first ∙ q ∙ sv.first)) in
          let b = corners_differ t r su.i sv.j
          (λ q. d.0 (edge_of v).second (Memᴰ.tail (Memᴰ.tail (Memᴰ.head refl))) (sym su.first ∙ q ∙ sv.second)) in
          let c = corners_differ t r su.j sv.i (λ q. d.1.0 (edge_of v).first (Memᴰ.head refl) (sym su.second ∙ q ∙ sv.first)) in
          let e = corners_differ t r su.j sv.j
          (λ q. d.1.0 (edge_of v).second (Memᴰ.tail (Memᴰ.head refl)) (sym su.second ∙ q ∙ sv.second)) in
          counts_here
          ∙ inner_count (within t) su.i su.j sv.i sv.j (seen_crossed u lu t su) (seen_crossed v lv t sv) differ_here
          (rw (a, b, c, e)) (λ z. n (counts_here ∙ z))

    -- ---- on a face: at most two tetrahedra have it

    abbrev pub e1 : ℕ
    e1 = (edge_of u).first

    abbrev pub e2 : ℕ
    e2 = (edge_of u).second

    abbrev f1 : ℕ
    f1 = (edge_of v).first

    abbrev f2 : ℕ
    f2 = (edge_of v).second

    -- the third corner of the face
    record Third : Type 0 where
      pub key : ℕ
      pub end : (key ≡ f1) ⊎ (key ≡ f2)
      not_e1 : e1 ≡ key → ⊥
      not_e2 : e2 ≡ key → ⊥

    same_ends : e1 ≡ f1 → e2 ≡ f2 → ⊥
    same_ends p q = edges_differ (λ i. record { first = p i; second = q i })

    third : OnFace es u v → Third
    third (inl p) = record { key = f2; end = inr refl; not_e1 = λ q. omega (arith, edge_up v lv); not_e2 = λ q. same_ends p q }
    third (inr (inl p)) =
        record { key = f1; end = inl refl; not_e1 = λ q. omega (arith, edge_up v lv); not_e2 = λ q. omega (arith, edge_up u lu, edge_up v lv) }
    third (inr (inr (inl p))) =
        record { key = f2; end = inr refl; not_e1 = λ q. omega (arith, edge_up u lu, edge_up v lv); not_e2 = λ q. omega (arith, edge_up v lv) }
    third (inr (inr (inr p))) = record { key = f1; end = inl refl; not_e1 = λ q. same_ends q p; not_e2 = λ q. omega (arith, edge_up v lv) }

    fourth_of : (t : Four) → Held t → (k : ℕ) → (k ≡ f1) ⊎ (k ≡ f2) → (e1 ≡ k → ⊥) → (e2 ≡ k → ⊥) → (w : ℕ) × Fourth t e1 e2 k w
    fourth_of t h k end p q =
        fourth t (rising_in rows up t h.listed) (clique_in rows up t h.listed) e1 e2 k h.u1 h.u2
        (⊎_elim (λ e. rw e h.v1) (λ e. rw e h.v2) end) (λ e. omega (arith, edge_up u lu)) p q

    -- a third tetrahedron with the face is one of the two
    pub only_two : OnFace es u v → (t t' x : Four) → Held t → Held t' → Held x → (t ≡ t' → ⊥) → (x ≡ t → ⊥) → (x ≡ t' → ⊥) → ⊥
    only_two f t t' x h h' hx n m m' =
        let c = third f in
        let k : ℕ = c.key in
        let a = fourth_of t h k c.end c.not_e1 c.not_e2 in
        let b = fourth_of t' h' k c.end c.not_e1 c.not_e2 in
        let d = fourth_of x hx k c.end c.not_e1 c.not_e2 in
        let up_of : (y : Four) → Held y → Rising y = λ y hy. rising_in rows up y hy.listed in
        let same : (y z : Four) → Held y → Held z → (i j : ℕ) → Fourth y e1 e2 k i → Fourth z e1 e2 k j → i ≡ j → y ≡ z =
        λ y z hy hz i j fy fz e. same_fourth y z e1 e2 k j (up_of y hy) (up_of z hz) (rw e at fy) fz in
        ⊎_elim (λ e. n (same t t' h h' a.0 b.0 a.1 b.1 e))
        (λ r. ⊎_elim (λ e. m (sym (same t x h hx a.0 d.0 a.1 d.1 e))) (λ e. m' (sym (same t' x h' hx b.0 d.0 b.1 d.1 e))) r)
        (common_two e1 e2 k a.0 b.0 d.0 a.1.clique b.1.clique d.1.clique)

    -- a face that two tetrahedra share: two triangles
    shared_two : OnFace es u v → (t t' : Four) → Held t → Held t' → (t ≡ t' → ⊥) → triangles_with (closed_triangles rows) u v ≡ 2
    shared_two f t t' h h' n =
        let s =
        sum_two (sides_of u v) ts (tetrahedra_are rows up).once t t' h.listed h'.listed n
        (λ x m p q.
        cases (λ (b : Bool). sides_of u v x ≡ 0) (around_test x) (λ a. absurd (only_two f t t' x h h' (held_by x m a) n p q)) (λ a. none_there x a)) in
        all_sides u v ∙ s ∙ rw (one_here t h f, one_here t' h' f)

    -- a face of one tetrahedron alone, at the border of the cells that have weight: one triangle
    border_one : OnFace es u v → (t : Four) → Held t → ((x : Four) → Held x → x ≡ t) → triangles_with (closed_triangles rows) u v ≡ 1
    border_one f t h only =
        let s =
        sum_one (sides_of u v) ts (tetrahedra_are rows up).once t h.listed
        (λ x m p. cases (λ (b : Bool). sides_of u v x ≡ 0) (around_test x) (λ a. absurd (p (only x (held_by x m a)))) (λ a. none_there x a)) in
        all_sides u v ∙ s ∙ one_here t h f

    -- ---- inside: one tetrahedron has the four corners

    pub only_one : Within es u v → (t x : Four) → Held t → Held x → x ≡ t
    unfolding Ordered
    only_one d t x h hx =
        let n13 : e1 ≡ f1 → ⊥ = λ q. d.0 f1 (Memᴰ.tail (Memᴰ.head refl)) q in
        let n14 : e1 ≡ f2 → ⊥ = λ q. d.0 f2 (Memᴰ.tail (Memᴰ.tail (Memᴰ.head refl))) q in
        let n23 : e2 ≡ f1 → ⊥ = λ q. d.1.0 f1 (Memᴰ.head refl) q in
        let n24 : e2 ≡ f2 → ⊥ = λ q. d.1.0 f2 (Memᴰ.tail (Memᴰ.head refl)) q in
        let a = fourth_of t h f1 (inl refl) n13 n23 in
        let b = fourth_of x hx f1 (inl refl) n13 n23 in
        let last : (y : Four) (w : ℕ) → Held y → Fourth y e1 e2 f1 w → w ≡ f2 =
        λ y w hy g.
        let c = holds_corner f2 y hy.v2 in
        ⊎_elim (λ p. absurd (n14 (sym p ∙ c.1)))
        (λ i. ⊎_elim (λ p. absurd (n24 (sym p ∙ c.1)))
        (λ j. ⊎_elim (λ p. let no : ⊥ = omega (arith, edge_up v lv, p, c.1) in absurd no) (λ p. sym p ∙ c.1) j) i) (g.only c.0) in
        same_fourth x t e1 e2 f1 f2 (rising_in rows up x hx.listed) (rising_in rows up t h.listed)
        (rw (last x b.0 hx b.1) at b.1) (rw (last t a.0 h a.1) at a.1)

    inner_two : Within es u v → (t : Four) → t ∈ ts → (sides_of u v t ≡ 0 → ⊥) → triangles_with (closed_triangles rows) u v ≡ 2
    inner_two d t m n =
        let h : Held t = cases (λ (b : Bool). Held t) (around_test t) (λ a. held_by t m a) (λ a. absurd (n (none_there t a))) in
        let s =
        sum_one (sides_of u v) ts (tetrahedra_are rows up).once t m
        (λ x i p. cases (λ (b : Bool). sides_of u v x ≡ 0) (around_test x) (λ a. absurd (p (only_one d t x h (held_by x i a)))) (λ a. none_there x a)) in
        all_sides u v ∙ s ∙ two_here t h d n

  -- ---- the theorem

  -- Every side that lies inside a tetrahedron, or on a face that two tetrahedra share, belongs to exactly two triangles.
  pub closes : Closes rows
  unfolding closed_triangles has_side All
  closes u v s where' =
      let t : Three ℕ = s.triangle in
      let nu = and_first (names u t) (names v t) s.side in
      let nv = and_second (names u t) (names v t) s.side in
      let lu = side_small t s.listed u nu in
      let lv = side_small t s.listed v nv in
      let j = joined_in (triangles_of rows es) ts s.listed in
      ⊎_elim
      (λ d.
      inner_two u v lu lv s.differ d j.0 j.1
      (λ z. not_empty (kept (has_side u v) (triangles_of rows es j.0)) (in_kept (has_side u v) (triangles_of rows es j.0) j.2 s.side) z))
      (λ f.
      let around : (x : Four) → x ∈ ts → Around (ends es u v) x → Held u v lu lv s.differ x =
      λ x m a. record { listed = m; u1 = a.0; u2 = a.1.0; v1 = a.1.1.0; v2 = a.1.1.1.0 } in
      shared_two u v lu lv s.differ f.face f.one f.other (around f.one f.one_listed f.one_around)
      (around f.other f.other_listed f.other_around) f.differ)
      where'

  -- ---- where a side lies

  -- Every side lies inside a tetrahedron or on a face.
  pub lies : (u v : ℕ) → IsSide (closed_triangles rows) u v → Within es u v ⊎ OnFace es u v
  unfolding has_side
  lies u v s =
      let t : Three ℕ = s.triangle in
      let lu = side_small t s.listed u (and_first (names u t) (names v t) s.side) in
      let lv = side_small t s.listed v (and_second (names u t) (names v t) s.side) in
      apart_or_meeting (edge_of u).first (edge_of u).second (edge_of v).first (edge_of v).second (edge_up u lu) (edge_up v lv)

  -- A side on a face that one tetrahedron of the table alone has belongs to exactly one triangle.
  pub border :
      (u v : ℕ)
      → IsSide (closed_triangles rows) u v
      → OnFace es u v
      → (t : Four)
      → t ∈ ts
      → Around (ends es u v) t
      → ((x : Four) → x ∈ ts → Around (ends es u v) x → x ≡ t)
      → triangles_with (closed_triangles rows) u v ≡ 1
  unfolding has_side All
  border u v s f t m a only =
      let w : Three ℕ = s.triangle in
      let lu = side_small w s.listed u (and_first (names u w) (names v w) s.side) in
      let lv = side_small w s.listed v (and_second (names u w) (names v w) s.side) in
      border_one u v lu lv s.differ f t (record { listed = m; u1 = a.0; u2 = a.1.0; v1 = a.1.1.0; v2 = a.1.1.1.0 })
      (λ x h. only x h.listed (h.u1, (h.u2, (h.v1, (h.v2, tt)))))
