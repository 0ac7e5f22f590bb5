-- One winding: through every side inside a tetrahedron, or on a face that two share, one triangle runs one way and one the other way.
-- Assumes nothing.
use Prim.Native.Nat.{ℕ, ◌+◌, ◌<◌}
use native.Mathlib.Nat.{min_comm, max_comm}
use native.Mathlib.Omega.{arith}
use mathlib.Core.Path.{◌≡◌, refl, sym, ap, ap₂, ◌∙◌, fun_ext}
use mathlib.Core.Logic.{◌⊎◌, inl, inr, ⊎_elim}
use mathlib.Core.Bool.{Bool, true, false, not, and_comm}
use mathlib.Core.List.Memᴰ
use mathlib.Core.List.{List}
use lib.Ieee.{unlike}
use lib.ListN.{length}
use Rattle.lists.specs.Lists.{◌∈◌, Ordered, All, kept}
use Rattle.lists.proofs.ListLaws.{map_in, joined_in, in_kept}
use Rattle.lists.proofs.Bools.{cases, and_first, and_second}
use Rattle.search.specs.Keys.{ascending}
use Rattle.table.specs.Table.{Row}
use Rattle.table.specs.Rows.{keys_of}
use Rattle.edges.specs.Edges.{Edge}
use Rattle.edges.specs.EdgeList.{pair_of}
use Rattle.edges.proofs.EdgeLaws.{pair_up}
use Rattle.edges.proofs.ZeroCrossingLaws.{unlike_comm}
use Rattle.groups.specs.Groups.{edge_at, one}
use Rattle.lists.specs.Threes.{Three}
use Rattle.tetrahedra.specs.Fours.{Four, Corner, at, Rising, holds}
use Rattle.tetrahedra.specs.Tetrahedra.{tetrahedra}
use Rattle.tetrahedra.specs.ClosedEdges.{inside_at, closed_edges}
use Rattle.tetrahedra.specs.ClosedTriangles.{same_edge, vertex_of, triangles_of, closed_triangles}
use Rattle.tetrahedra.specs.Closing.{names, has_side, IsSide, ends, Around, Within, Meeting, OnFace, Shared, triangles_with, ClosesBy}
use Rattle.tetrahedra.proofs.Corners.{holds_corner, corners_differ, apart3}
use Rattle.tetrahedra.proofs.Counting.{sum_of, kept_joined, not_empty, sum_one, sum_two}
use Rattle.tetrahedra.proofs.Local.{same_pair, meets}
use Rattle.tetrahedra.proofs.TetrahedronLaws.{tetrahedra_are, rising_in, clique_in}
use Rattle.tetrahedra.proofs.ClosingLaws.{pair_corners, apart_or_meeting, edge_up, edge_crossed, sides_of, on_edge_lem, on_edge, seen_pairs, seen_crossed, side_small, edges_differ, Held, around_test, held_by, none_there, su, sv, counts_here, two_here, only_two, only_one, closes}
use Rattle.winding.specs.Winding.{outwards, looks_in, turned_triangles, runs_through, running_with, OneWinding}
use Rattle.winding.specs.Steps.{left_of, ruled_of}
use Rattle.winding.proofs.Running.{runs_by, run_cut_by, forward, face_run, inner_run, turn_side, kept_turned, turned_sides, runs_side, fewer}
use Rattle.winding.proofs.TurningLaws.{turned_ruled}
use Rattle.winding.proofs.Sides.{opposite_ways}

one_other : (a b : Bool) → a ≡ not b → one a + one b ≡ 1
one_other a true e = rw e
one_other a false e = rw e

half : (n m : ℕ) → n + n ≡ m → m ≡ 2 → n ≡ 1
half n m e f = omega arith

pair_either : (a b : ℕ) → pair_of a b ≡ pair_of b a
pair_either a b = rw (min_comm a b, max_comm a b)

module _ (rows : List Row) (up : ascending (keys_of rows) ≡ true) where
  abbrev pub es : List Edge
  es = closed_edges rows

  abbrev pub ts : List Four
  ts = tetrahedra rows

  abbrev pub edge_of' : ℕ → Edge
  edge_of' u = edge_at es u

  -- how many triangles of one tetrahedron run from u to v
  abbrev pub runs_of : ℕ → ℕ → Four → ℕ
  runs_of u v t = length (kept (runs_through u v) (ruled_of rows es t))

  abbrev pub inner : Four → Corner → Bool
  inner t c = inside_at rows (at t c)

  pub runs_are : (u v : ℕ)
      → u < length es
      → v < length es
      → (t : Four)
      → runs_of u v t ≡ runs_by (left_of t) (on_edge_lem rows up u t) (on_edge_lem rows up v t) (inner t)
  runs_are u v lu lv t =
      run_cut_by (vertex_of es t) u v (left_of t) (inner t)
      ∙ ap₂ (λ (b c : Corner → Corner → Bool). runs_by (left_of t) b c (inner t)) (on_edge rows up u lu t) (on_edge rows up v lv t)

  all_runs : (u v : ℕ) → running_with (turned_triangles rows) u v ≡ sum_of (runs_of u v) ts
  all_runs u v = ap (λ (l : List (Three ℕ)). running_with l u v) (turned_ruled rows up) ∙ kept_joined (runs_through u v) (ruled_of rows es) ts

  -- none has the side, none runs through it
  no_runs : (u v : ℕ) (t : Four) → sides_of rows up u v t ≡ 0 → runs_of u v t ≡ 0
  no_runs u v t z =
      let a = fewer (runs_through u v) (has_side u v) (runs_side u v) (ruled_of rows es t) in
      let b = turned_sides (vertex_of es t) u v (left_of t) (inner t) in
      omega (arith, a, b, z)

  pub pairs_on : (w : ℕ) (t : Four) → Rising t → (i j : Corner) → edge_of' w ≡ pair_of (at t i) (at t j) → on_edge_lem rows up w t ≡ same_pair i j
  unfolding on_edge_lem
  pairs_on w t ris i j e =
      fun_ext (λ x. fun_ext (λ y. ap (same_edge (pair_of (at t x) (at t y))) e ∙ pair_corners t ris x y i j))

  module _ (u v : ℕ) (lu : u < length es) (lv : v < length es) (un : u ≡ v → ⊥) where
    abbrev HeldBy : Four → Type 0
    HeldBy t = Held rows up u v lu lv un t

    -- ---- on a face: the corner where the two edges meet, and the two others

    -- m and a are the ends of an edge
    abbrev Ends : Edge → ℕ → ℕ → Type 0
    Ends e m a = ((m ≡ e.first) × (a ≡ e.second)) ⊎ ((m ≡ e.second) × (a ≡ e.first))

    record Bent : Type 0 where
      m : ℕ
      a : ℕ
      b : ℕ
      u_ends : Ends (edge_of' u) m a
      v_ends : Ends (edge_of' v) m b

    bent : OnFace es u v → Bent
    bent (inl p) = record { m = (edge_of' u).first; a = (edge_of' u).second; b = (edge_of' v).second; u_ends = inl (refl, refl); v_ends = inl (p, refl) }
    bent (inr (inl p)) =
        record { m = (edge_of' u).first; a = (edge_of' u).second; b = (edge_of' v).first; u_ends = inl (refl, refl); v_ends = inr (p, refl) }
    bent (inr (inr (inl p))) =
        record { m = (edge_of' u).second; a = (edge_of' u).first; b = (edge_of' v).second; u_ends = inr (refl, refl); v_ends = inl (p, refl) }
    bent (inr (inr (inr p))) =
        record { m = (edge_of' u).second; a = (edge_of' u).first; b = (edge_of' v).first; u_ends = inr (refl, refl); v_ends = inr (p, refl) }

    ends_pair : (w : ℕ) → w < length es → (m a : ℕ) → Ends (edge_of' w) m a → edge_of' w ≡ pair_of m a
    ends_pair w l m a (inl e) = rw (e.0, e.1) (sym (pair_up (edge_up rows up w l)))
    ends_pair w l m a (inr e) = rw (e.0, e.1) (sym (pair_up (edge_up rows up w l)) ∙ pair_either (edge_of' w).first (edge_of' w).second)

    ends_crossed : (w : ℕ) → w < length es → (m a : ℕ) → Ends (edge_of' w) m a → unlike (inside_at rows m) (inside_at rows a) ≡ true
    ends_crossed w l m a (inl e) = rw (e.0, e.1) (edge_crossed rows up w l)
    ends_crossed w l m a (inr e) =
        rw (e.0, e.1) (unlike_comm (inside_at rows (edge_of' w).second) (inside_at rows (edge_of' w).first) ∙ edge_crossed rows up w l)

    ends_apart : (w : ℕ) → w < length es → (m a : ℕ) → Ends (edge_of' w) m a → m ≡ a → ⊥
    ends_apart w l m a (inl e) q = let h = edge_up rows up w l in omega arith
    ends_apart w l m a (inr e) q = let h = edge_up rows up w l in omega arith

    ends_held : (e : Edge) (t : Four) (m a : ℕ) → Ends e m a → holds e.first t ≡ true → holds e.second t ≡ true → (holds m t ≡ true) × (holds a t ≡ true)
    ends_held e t m a (inl q) x y = (rw q.0 x, rw q.1 y)
    ends_held e t m a (inr q) x y = (rw q.0 y, rw q.1 x)

    module _ (k : Bent) where
      -- the three corners in a tetrahedron that has them, and which way its triangle runs
      record Placed (t : Four) : Type 0 where
        cm : Corner
        ca : Corner
        cb : Corner
        em : at t cm ≡ k.m
        ea : at t ca ≡ k.a
        eb : at t cb ≡ k.b
        three : apart3 cm ca cb ≡ true
        count : runs_of u v t ≡ one (forward (left_of t) cm ca cb (inside_at rows k.m))

      a_b : k.a ≡ k.b → ⊥
      a_b q =
          edges_differ rows up u v lu lv un
          (ends_pair u lu k.m k.a k.u_ends ∙ ap (pair_of k.m) q ∙ sym (ends_pair v lv k.m k.b k.v_ends))

      placed : (t : Four) → HeldBy t → Placed t
      unfolding apart3
      placed t h =
          let ris : Rising t = rising_in rows up t h.listed in
          let hu = ends_held (edge_of' u) t k.m k.a k.u_ends h.u1 h.u2 in
          let hv = ends_held (edge_of' v) t k.m k.b k.v_ends h.v1 h.v2 in
          let p = holds_corner k.m t hu.0 in
          let q = holds_corner k.a t hu.1 in
          let s = holds_corner k.b t hv.1 in
          let i : Corner = p.0 in
          let j : Corner = q.0 in
          let l : Corner = s.0 in
          let em : at t i ≡ k.m = p.1 in
          let ea : at t j ≡ k.a = q.1 in
          let eb : at t l ≡ k.b = s.1 in
          let ij = corners_differ t ris i j (λ e. ends_apart u lu k.m k.a k.u_ends (sym em ∙ e ∙ ea)) in
          let il = corners_differ t ris i l (λ e. ends_apart v lv k.m k.b k.v_ends (sym em ∙ e ∙ eb)) in
          let jl = corners_differ t ris j l (λ e. a_b (sym ea ∙ e ∙ eb)) in
          let d : apart3 i j l ≡ true = rw (ij, il, jl) in
          let pu = pairs_on u t ris i j (ends_pair u lu k.m k.a k.u_ends ∙ ap₂ pair_of (sym em) (sym ea)) in
          let pv = pairs_on v t ris i l (ends_pair v lv k.m k.b k.v_ends ∙ ap₂ pair_of (sym em) (sym eb)) in
          let xa : unlike (inner t i) (inner t j) ≡ true = rw (em, ea) (ends_crossed u lu k.m k.a k.u_ends) in
          let xb : unlike (inner t i) (inner t l) ≡ true = rw (em, eb) (ends_crossed v lv k.m k.b k.v_ends) in
          let c : runs_of u v t ≡ one (forward (left_of t) i j l (inside_at rows k.m)) =
          runs_are u v lu lv t
          ∙ ap₂ (λ (b c : Corner → Corner → Bool). runs_by (left_of t) b c (inner t)) pu pv
          ∙ face_run (left_of t) (inner t) i j l d xa xb
          ∙ ap (λ (n : ℕ). one (forward (left_of t) i j l (inside_at rows n))) em in
          record { cm = i; ca = j; cb = l; em = em; ea = ea; eb = eb; three = d; count = c }

    shared_one : OnFace es u v → (t t' : Four) → HeldBy t → HeldBy t' → (t ≡ t' → ⊥) → running_with (turned_triangles rows) u v ≡ 1
    shared_one f t t' h h' n =
        let k = bent f in
        let p = placed k t h in
        let q = placed k t' h' in
        let s =
        sum_two (runs_of u v) ts (tetrahedra_are rows up).once t t' h.listed h'.listed n
        (λ x m i j.
        no_runs u v x
        (cases (λ (b : Bool). sides_of rows up u v x ≡ 0) (around_test rows up u v lu lv un x)
        (λ a. absurd (only_two rows up u v lu lv un f t t' x h h' (held_by rows up u v lu lv un x m a) n i j)) (λ a. none_there rows up u v lu lv un x a))) in
        let o =
        opposite_ways t t' (rising_in rows up t h.listed) (rising_in rows up t' h'.listed) (clique_in rows up t h.listed)
        (clique_in rows up t' h'.listed)
        p.cm p.ca p.cb q.cm q.ca q.cb p.three q.three (q.em ∙ sym p.em) (q.ea ∙ sym p.ea) (q.eb ∙ sym p.eb) n
        (inside_at rows k.m) in
        all_runs u v ∙ s ∙ ap₂ ◌+◌ p.count q.count
        ∙ one_other (forward (left_of t) p.cm p.ca p.cb (inside_at rows k.m)) (forward (left_of t') q.cm q.ca q.cb (inside_at rows k.m)) o

    -- ---- inside

    inner_one : Within es u v → (t : Four) → t ∈ ts → (sides_of rows up u v t ≡ 0 → ⊥) → running_with (turned_triangles rows) u v ≡ 1
    unfolding meets Ordered
    inner_one d t m n =
        let h : HeldBy t =
        cases (λ (b : Bool). HeldBy t) (around_test rows up u v lu lv un t) (λ a. held_by rows up u v lu lv un t m a)
        (λ a. absurd (n (none_there rows up u v lu lv un t a))) in
        let ris : Rising t = rising_in rows up t h.listed in
        let x = su rows up u v lu lv un t h in
        let y = sv rows up u v lu lv un t h in
        let s =
        sum_one (runs_of u v) ts (tetrahedra_are rows up).once t m
        (λ z i p.
        no_runs u v z
        (cases (λ (b : Bool). sides_of rows up u v z ≡ 0) (around_test rows up u v lu lv un z)
        (λ a. absurd (p (only_one rows up u v lu lv un d t z h (held_by rows up u v lu lv un z i a)))) (λ a. none_there rows up u v lu lv un z a))) in
        let a = corners_differ t ris x.i y.i (λ q. d.0 (edge_of' v).first (Memᴰ.tail (Memᴰ.head refl)) (sym x.first ∙ q ∙ y.first)) in
        let b = corners_differ t ris x.i y.j
        (λ q. d.0 (edge_of' v).second (Memᴰ.tail (Memᴰ.tail (Memᴰ.head refl))) (sym x.first ∙ q ∙ y.second)) in
        let c = corners_differ t ris x.j y.i (λ q. d.1.0 (edge_of' v).first (Memᴰ.head refl) (sym x.second ∙ q ∙ y.first)) in
        let e = corners_differ t ris x.j y.j
        (λ q. d.1.0 (edge_of' v).second (Memᴰ.tail (Memᴰ.head refl)) (sym x.second ∙ q ∙ y.second)) in
        let apart : meets x.i x.j y.i y.j ≡ false = rw (a, b, c, e) in
        let doubled =
        inner_run (left_of t) (inner t) x.i x.j y.i y.j (seen_crossed rows up u lu t x) (seen_crossed rows up v lv t y) apart
        ∙ sym (counts_here rows up u v lu lv un t h) in
        let here =
        runs_are u v lu lv t
        ∙ ap₂ (λ (b c : Corner → Corner → Bool). runs_by (left_of t) b c (inner t)) (seen_pairs rows up u lu t ris x) (seen_pairs rows up v lv t ris y) in
        all_runs u v ∙ s ∙ here ∙ half _ _ doubled (two_here rows up u v lu lv un t h d n)

  -- ---- the theorem

  one_way : (u v : ℕ) → IsSide (closed_triangles rows) u v → Within es u v ⊎ Shared rows es u v → running_with (turned_triangles rows) u v ≡ 1
  unfolding closed_triangles has_side All
  one_way u v s where' =
      let t : Three ℕ = s.triangle in
      let lu = side_small rows up t s.listed u (and_first (names u t) (names v t) s.side) in
      let lv = side_small rows up t s.listed v (and_second (names u t) (names v t) s.side) in
      let j = joined_in (triangles_of rows es) ts s.listed in
      ⊎_elim
      (λ d.
      inner_one u v lu lv s.differ d j.0 j.1
      (λ z. not_empty (kept (has_side u v) (triangles_of rows es j.0)) (in_kept (has_side u v) (triangles_of rows es j.0) j.2 s.side) z))
      (λ f.
      let around : (x : Four) → x ∈ ts → Around (ends es u v) x → Held rows up u v lu lv s.differ x =
      λ x m a. record { listed = m; u1 = a.0; u2 = a.1.0; v1 = a.1.1.0; v2 = a.1.1.1.0 } in
      shared_one u v lu lv s.differ f.face f.one f.other (around f.one f.one_listed f.one_around)
      (around f.other f.other_listed f.other_around) f.differ)
      where'

  side_back : (u v : ℕ) → IsSide (closed_triangles rows) u v → IsSide (closed_triangles rows) v u
  unfolding has_side
  side_back u v s =
      record {
        differ = λ e. s.differ (sym e);
        triangle = s.triangle;
        listed = s.listed;
        side = and_comm (names v s.triangle) (names u s.triangle)
            ∙ s.side;
      }

  around_back : (u v : ℕ) (t : Four) → Around (ends es u v) t → Around (ends es v u) t
  unfolding All
  around_back u v t a = (a.1.1.0, (a.1.1.1.0, (a.0, (a.1.0, tt))))

  face_back : (e f : Edge) → Meeting e f → Meeting f e
  face_back e f (inl p) = inl (sym p)
  face_back e f (inr (inl p)) = inr (inr (inl (sym p)))
  face_back e f (inr (inr (inl p))) = inr (inl (sym p))
  face_back e f (inr (inr (inr p))) = inr (inr (inr (sym p)))

  not_meeting : (u v : ℕ) → Within es u v → Meeting (edge_of' u) (edge_of' v) → ⊥
  unfolding Ordered
  not_meeting u v d (inl p) = d.0 (edge_of' v).first (Memᴰ.tail (Memᴰ.head refl)) p
  not_meeting u v d (inr (inl p)) = d.0 (edge_of' v).second (Memᴰ.tail (Memᴰ.tail (Memᴰ.head refl))) p
  not_meeting u v d (inr (inr (inl p))) = d.1.0 (edge_of' v).first (Memᴰ.head refl) p
  not_meeting u v d (inr (inr (inr p))) = d.1.0 (edge_of' v).second (Memᴰ.tail (Memᴰ.head refl)) p

  where_back : (u v : ℕ) → IsSide (closed_triangles rows) u v → Within es u v ⊎ Shared rows es u v → Within es v u ⊎ Shared rows es v u
  unfolding has_side
  where_back u v s (inl d) =
      let t : Three ℕ = s.triangle in
      let lu = side_small rows up t s.listed u (and_first (names u t) (names v t) s.side) in
      let lv = side_small rows up t s.listed v (and_second (names u t) (names v t) s.side) in
      ⊎_elim (λ w. inl w) (λ m. absurd (not_meeting u v d (face_back (edge_of' v) (edge_of' u) m)))
      (apart_or_meeting (edge_of' v).first (edge_of' v).second (edge_of' u).first (edge_of' u).second (edge_up rows up v lv) (edge_up rows up u lu))
  where_back u v s (inr f) =
      inr (record {
        face = face_back (edge_of' u) (edge_of' v) f.face;
        one = f.one;
        other = f.other;
        differ = f.differ;
        one_listed = f.one_listed;
        other_listed = f.other_listed;
        one_around = around_back u v f.one f.one_around;
        other_around = around_back u v f.other f.other_around;
      })

  -- a side of the turned list is one of No. 14's
  side_before : (u v : ℕ) → IsSide (turned_triangles rows) u v → IsSide (closed_triangles rows) u v
  unfolding turned_triangles
  side_before u v s =
      let g = map_in (outwards rows es) (closed_triangles rows) s.listed in
      record {
        differ = s.differ;
        triangle = g.0;
        listed = g.1;
        side = sym (turn_side u v (looks_in rows es g.0) g.0) ∙ sym (ap (has_side u v) g.2) ∙ s.side;
      }

  -- Through every side inside a tetrahedron, or on a face that two share, one triangle runs one way and one the other way.
  pub one_winding : OneWinding rows
  one_winding u v s' w =
      let s = side_before u v s' in
      (one_way u v s w, one_way v u (side_back u v s) (where_back u v s w))

  -- Turning keeps the sides: the turned list has as many triangles with a side as No. 14's,
  pub turned_with : (u v : ℕ) → triangles_with (turned_triangles rows) u v ≡ triangles_with (closed_triangles rows) u v
  unfolding turned_triangles
  turned_with u v = kept_turned u v (looks_in rows es) (closed_triangles rows)

  -- so it closes where that does.
  pub turned_closes : ClosesBy rows es (turned_triangles rows)
  turned_closes u v s w = turned_with u v ∙ closes rows up u v (side_before u v s) w
