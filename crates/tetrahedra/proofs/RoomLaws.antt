-- An edge has two ends and a cell at most 14 neighbours, so there are at most 7 edges to a row; a tetrahedron is known by the lower cell of one of its
-- axial pairs and by one of six ways to place the other three from there, so there are at most 6 to a row; and each has at most two triangles.
-- Assumes nothing.
use Prim.Native.Nat.{ℕ, ◌+◌, ◌-◌, ◌*◌, ◌<◌, ◌≤◌}
use native.Mathlib.Nat.{add_comm}
use native.Mathlib.Omega.{arith}
use mathlib.Core.Path.{◌≡◌, refl, sym, ap, ◌∙◌}
use mathlib.Core.Logic.{◌⊎◌, inl, inr, ⊎_elim}
use mathlib.Core.Bool.{Bool, true, false, not, cond, ◌||◌, or_comm}
use mathlib.Core.List.Memᴰ
use mathlib.Core.List.{List, [], ◌∷◌, ◌++◌, map}
use lib.Dec.{eqb}
use borrow.Author.Tests.{eq-eqb}
use lib.ListN.{length, length-append, length-map}
use Rattle.floats.proofs.Values.{le_or_lt}
use Rattle.ids.specs.Key.{head_of, x_of, y_of, z_of}
use Rattle.ids.proofs.KeyLaws.{same_key}
use Rattle.lists.specs.Lists.{◌∈◌, Distinct, kept, joined}
use Rattle.lists.proofs.ListLaws.{map_in, in_map, in_joined, at_in, ordered_weaken, append_ordered, map_ordered, no_more}
use Rattle.lists.proofs.Bools.{or_swap}
use Rattle.neighbors.specs.Neighbors.{Offset, down1, stay, up1, up2, neighbours, apart, adjacent}
use Rattle.neighbors.proofs.NeighborLaws.{at_most_14}
use Rattle.neighbors.proofs.Adjacency.{adjacent_sym, adjacent_neighbour}
use Rattle.search.specs.Keys.{ascending}
use Rattle.table.specs.Table.{Row}
use Rattle.table.specs.Rows.{keys_of}
use Rattle.edges.specs.Edges.{Edge, edge, edges}
use Rattle.edges.proofs.EdgeLaws.{edges_in_lem}
use Rattle.edges.proofs.ZeroCrossingLaws.{lattice}
use Rattle.lists.specs.Threes.{Three, three}
use Rattle.rings.specs.Sides.{weighted}
use Rattle.tetrahedra.specs.Fours.{Four, four, Corner, corners, at, Rising, holds}
use Rattle.tetrahedra.specs.Tetrahedra.{diagonal, weighted_keys, tetrahedra}
use Rattle.tetrahedra.specs.ClosedEdges.{inside_at, crosses_in, closed_edges}
use Rattle.tetrahedra.specs.ClosedTriangles.{nth, alone, halves, cut, cut_by, vertex_of, triangles_of, closed_triangles}
use Rattle.tetrahedra.proofs.Lattice.{slant, Along, Straight, axial_heads, axial_along, same_at, middle, axial_sym, diagonal_sym, Shape, Splits, clique_splits, CliqueOf}
use Rattle.tetrahedra.proofs.Corners.{or_first_true, holds_corner, corner_holds, same_four}
use Rattle.tetrahedra.proofs.TetrahedronLaws.{tetrahedra_are, rising_in, clique_in, corner_in}
use Rattle.tetrahedra.proofs.ClosedEdgeLaws.{edges_once}
use Rattle.tetrahedra.proofs.Counting.{kept_both, joined_few}

-- ---- edges: each is seen from both its cells, and from a cell at most 14

turned : Edge → Edge
turned e = edge e.second e.first

-- a cell with each of its neighbours
abbrev around : ℕ → List Edge
around k = map (edge k) (neighbours k)

module _ (crosses : Row → Row → Bool) (rows : List Row) (up : ascending (keys_of rows) ≡ true) where
  abbrev es : List Edge
  es = edges neighbours crosses rows

  es_distinct : Distinct es
  es_distinct = edges_once crosses rows up

  upward : (e : Edge) → e ∈ es → e.first < e.second
  upward e m = let h = edges_in_lem neighbours adjacent crosses rows lattice m in rw h.4 h.3

  -- an adjacent cell, seen from a stored one
  seen_from : (r : Row) (l : ℕ) → r ∈ rows → adjacent r.key l ≡ true → edge r.key l ∈ joined around (keys_of rows)
  seen_from r l m a =
      in_joined around (keys_of rows) (in_map (λ (r : Row). r.key) rows m)
      (in_map (edge r.key) (neighbours r.key) (adjacent_neighbour r.key l a))

  seen : (e : Edge) → e ∈ es → (e ∈ joined around (keys_of rows)) × (turned e ∈ joined around (keys_of rows))
  unfolding turned
  seen e m =
      let h = edges_in_lem neighbours adjacent crosses rows lattice m in
      let r : Row = h.0 in
      let s : Row = h.1 in
      let c = h.2 in
      rw h.4 (seen_from r s.key c.stored c.adjacency, seen_from s r.key c.beside (adjacent_sym s.key r.key ∙ c.adjacency))

  -- every edge from both ends
  abbrev both_ways : List Edge
  both_ways = es ++ map turned es

  both_distinct : Distinct both_ways
  unfolding turned
  both_distinct =
      append_ordered (λ e f. e ≡ f → ⊥) es (map turned es) es_distinct
      (map_ordered (λ e f. e ≡ f → ⊥) turned es
      (ordered_weaken (λ e f. e ≡ f → ⊥) (λ e f. turned e ≡ turned f → ⊥) es (λ e f p q n s. n (ap turned s)) es_distinct))
      (λ e f i j s.
      let k = map_in turned es j in
      let a = upward e i in
      let b = upward k.0 k.1 in
      let c : e.first ≡ k.0.second = ap (λ (x : Edge). x.first) (s ∙ k.2) in
      let d : e.second ≡ k.0.first = ap (λ (x : Edge). x.second) (s ∙ k.2) in
      omega arith)

  both_seen : (e : Edge) → e ∈ both_ways → e ∈ joined around (keys_of rows)
  both_seen e m =
      ⊎_elim (λ i. (seen e i).0) (λ j. let k = map_in turned es j in rw k.2 (seen k.0 k.1).1) (Memᴰ.append_cases es m)

  around_few : (k : ℕ) → length (around k) ≤ 14
  around_few k = rw (length-map (neighbours k) (edge k)) (at_most_14 k)

  -- at most 7 edges to a row, whatever two rows cross
  pub edges_few : length (edges neighbours crosses rows) ≤ 7 * length rows
  edges_few =
      let most = no_more (λ e f. e ≡ f) both_ways (joined around (keys_of rows)) both_distinct (λ e m. (e, both_seen e m, refl)) (λ e f g p q. p ∙ sym q) in
      let two : length both_ways ≡ length es + length es = length-append es (map turned es) ∙ ap (λ (n : ℕ). length es + n) (length-map es turned) in
      let few : length (joined around (keys_of rows)) ≤ 14 * length (keys_of rows) = joined_few around 14 around_few (keys_of rows) in
      let all : length (keys_of rows) ≡ length rows = length-map rows (λ (r : Row). r.key) in
      omega arith

-- ---- a cell at an offset from another

record Stepped (p q : ℕ) (o : Offset) : Type 0 where
  heads : head_of p ≡ head_of q
  x : x_of q + 2 ≡ x_of p + o.0
  y : y_of q + 2 ≡ y_of p + o.1
  z : z_of q + 2 ≡ z_of p + o.2

evened : (a b c : ℕ) → a + 2 ≡ c → b + 2 ≡ c → a ≡ b
evened a b c d e = omega arith

-- there is one
one_place : (p q r : ℕ) (o : Offset) → Stepped p q o → Stepped p r o → q ≡ r
one_place p q r o s t =
    same_key q r (sym s.heads ∙ t.heads) (evened _ _ _ s.x t.x) (evened _ _ _ s.y t.y) (evened _ _ _ s.z t.z)

-- ---- the corners of a tetrahedron in another order

abbrev Held : Four → ℕ → ℕ → ℕ → ℕ → Type 0
Held t p q m n = (k : ℕ) → holds k t ≡ holds k (four p q m n)

-- p, q are an axial pair of t, and m, n the other
record Paired (t : Four) (p q m n : ℕ) : Type 0 where
  shape : Shape p q m n
  held : Held t p q m n

module _ (t : Four) (p q m n : ℕ) where
  held_first : Held t p q m n → Held t q p m n
  unfolding holds
  held_first e k = e k ∙ or_swap (eqb p k) (eqb q k) (eqb m k || eqb n k)

  held_middle : Held t p q m n → Held t p m q n
  unfolding holds
  held_middle e k = e k ∙ ap (λ b. eqb p k || b) (or_swap (eqb q k) (eqb m k) (eqb n k))

  held_last : Held t p q m n → Held t p q n m
  unfolding holds
  held_last e k = e k ∙ ap (λ b. eqb p k || (eqb q k || b)) (or_comm (eqb m k) (eqb n k))

module _ (t : Four) (p q m n : ℕ) (s : Paired t p q m n) where
  turn_first : Paired t q p m n
  turn_first =
      let h = s.shape in
      record {
        shape = record { kl = axial_sym p q h.kl; mn = h.mn; km = h.lm; lm = h.km; kn = h.ln; ln = h.kn };
        held = held_first t p q m n s.held;
      }

  turn_last : Paired t p q n m
  turn_last =
      let h = s.shape in
      record {
        shape = record { kl = h.kl; mn = axial_sym m n h.mn; km = h.kn; lm = h.ln; kn = h.km; ln = h.lm };
        held = held_last t p q m n s.held;
      }

  turn_pairs : Paired t m n p q
  turn_pairs =
      let h = s.shape in
      record {
        shape =
            record {
              kl = h.mn;
              mn = h.kl;
              km = diagonal_sym p m h.km;
              lm = diagonal_sym p n h.kn;
              kn = diagonal_sym q m h.lm;
              ln = diagonal_sym q n h.ln;
            };
        held = held_middle t m p n q (held_last t m p q n (held_first t p m q n (held_middle t p q m n s.held)));
      }

-- the corners of a tetrahedron are so in one of three orders
paired : (t : Four) → CliqueOf t → (p : ℕ) × (q : ℕ) × (m : ℕ) × (n : ℕ) × Paired t p q m n
paired t c = go (clique_splits t.a t.b t.c t.d c)
  where
    go : Splits t.a t.b t.c t.d → (p : ℕ) × (q : ℕ) × (m : ℕ) × (n : ℕ) × Paired t p q m n
    go (inl s) = (t.a, t.b, t.c, t.d, record { shape = s; held = λ k. refl })
    go (inr (inl s)) = (t.a, t.c, t.b, t.d, record { shape = s; held = held_middle t t.a t.b t.c t.d (λ k. refl) })
    go (inr (inr s)) = (
      t.a,
      t.d,
      t.b,
      t.c,
      record { shape = s; held = held_middle t t.a t.b t.d t.c (held_last t t.a t.b t.c t.d (λ k. refl)) },
    )

-- ---- the six ways

-- 2 up along the first axis; and half way there, 1 down and 1 up along the second, to one side along the third
abbrev way : (ℕ → ℕ → ℕ → Offset) → ℕ → Three Offset
way to side = three (to up2 stay stay) (to up1 down1 side) (to up1 up1 side)

-- x, y and z as first, second and third axis, in the three orders whose first axis comes before the second
abbrev by_xy : ℕ → ℕ → ℕ → Offset
by_xy a b c = (a, b, c)

abbrev by_xz : ℕ → ℕ → ℕ → Offset
by_xz a b c = (a, c, b)

abbrev by_yz : ℕ → ℕ → ℕ → Offset
by_yz a b c = (c, a, b)

abbrev ways : List (Three Offset)
ways = way by_xy down1 ∷ way by_xy up1 ∷ way by_xz down1 ∷ way by_xz up1 ∷ way by_yz down1 ∷ way by_yz up1 ∷ []

-- the corners of t are p and the three cells at the offsets of w from there
record Placed (t : Four) (p : ℕ) (w : Three Offset) : Type 0 where
  q : ℕ
  m : ℕ
  n : ℕ
  rising : Rising t
  held : Held t p q m n
  q_at : Stepped p q w.a
  m_at : Stepped p m w.b
  n_at : Stepped p n w.c

-- and no other four are
one_placed : (t u : Four) (p : ℕ) (w : Three Offset) → Placed t p w → Placed u p w → t ≡ u
one_placed t u p w s r =
    same_four t u s.rising r.rising (λ c. sym (same (at t c)) ∙ corner_holds t c refl) (λ c. same (at u c) ∙ corner_holds u c refl)
  where
    same : (k : ℕ) → holds k t ≡ holds k u
    same k =
        s.held k
        ∙ rw (
          one_place p s.q r.q w.a s.q_at r.q_at,
          one_place p s.m r.m w.b s.m_at r.m_at,
          one_place p s.n r.n w.c s.n_at r.n_at,
        )
        (sym (r.held k))

-- t is placed so from one of its corners
Found : Four → Type 0
Found t = (p : ℕ) × (w : Three Offset) × (w ∈ ways) × Placed t p w

-- ---- each tetrahedron is placed in one of them

two_apart : (a b : ℕ) → apart a b ≡ 2 → (b ≡ a + 2) ⊎ (a ≡ b + 2)
two_apart a b e = ⊎_elim (λ l. inl (omega arith)) (λ l. inr (omega arith)) (le_or_lt a b)

one_apart : (a b : ℕ) → apart a b ≡ 1 → (b + 2 ≡ a + down1) ⊎ (b + 2 ≡ a + up1)
one_apart a b e = ⊎_elim (λ l. inr (omega arith)) (λ l. inl (omega arith)) (le_or_lt a b)

-- half way
between : (p q m : ℕ) → q ≡ p + 2 → apart p m ≡ 1 → apart q m ≡ 1 → m + 2 ≡ p + up1
between p q m e a b = omega arith

-- to both sides
beside : (p m n : ℕ) → n ≡ m + 2 → apart p m ≡ 1 → apart p n ≡ 1 → (m + 2 ≡ p + down1) × (n + 2 ≡ p + up1)
beside p m n e a b = (omega arith, omega arith)

-- two cells are a slanted step apart along three axes
abbrev Slanted : (f g h : ℕ → ℕ) → ℕ → ℕ → Type 0
Slanted f g h k l = (apart (f k) (f l) ≡ 1) × (apart (g k) (g l) ≡ 1) × (apart (h k) (h l) ≡ 1)

along_back : (f g h : ℕ → ℕ) (k l : ℕ) → Along f g h k l → Along f g h l k
along_back f g h k l a = (add_comm (f l - f k) (f k - f l) ∙ a.0, add_comm (g l - g k) (g k - g l) ∙ a.1, add_comm (h l - h k) (h k - h l) ∙ a.2)

-- t's first pair is along f and its second along g
module _ (f g h : ℕ → ℕ) (to : ℕ → ℕ → ℕ → Offset)
    (steps : (k l a b c : ℕ) → head_of k ≡ head_of l → f l + 2 ≡ f k + a → g l + 2 ≡ g k + b → h l + 2 ≡ h k + c → Stepped k l (to a b c))
    (slants : (k l : ℕ) → diagonal k l ≡ true → Slanted f g h k l)
    (lower : way to down1 ∈ ways) (upper : way to up1 ∈ ways) (t : Four) (rises : Rising t) where
  -- both upwards
  upwards : (p q m n : ℕ) → Paired t p q m n → Along f g h p q → Along g f h m n → f q ≡ f p + 2 → g n ≡ g m + 2 → Found t
  unfolding Found
  upwards p q m n s a b pq mn =
      ⊎_elim (λ e. (p, way to down1, lower, placed down1 e)) (λ e. (p, way to up1, upper, placed up1 e)) (one_apart (h p) (h m) pm.2)
    where
      pm : Slanted f g h p m
      pm = slants p m s.shape.km

      pn : Slanted f g h p n
      pn = slants p n s.shape.kn

      aside : (g m + 2 ≡ g p + down1) × (g n + 2 ≡ g p + up1)
      aside = beside (g p) (g m) (g n) mn pm.1 pn.1

      placed : (side : ℕ) → h m + 2 ≡ h p + side → Placed t p (way to side)
      placed side e =
          record {
            q = q;
            m = m;
            n = n;
            rising = rises;
            held = s.held;
            q_at =
                steps p q up2 stay stay (axial_heads p q s.shape.kl) (omega arith) (ap (λ (x : ℕ). x + 2) (sym (same_at (g p) (g q) a.1)))
                (ap (λ (x : ℕ). x + 2) (sym (same_at (h p) (h q) a.2)));
            m_at =
                steps p m up1 down1 side (slant p m s.shape.km).heads (between (f p) (f q) (f m) pq pm.0 (slants q m s.shape.lm).0) aside.0 e;
            n_at =
                steps p n up1 up1 side (slant p n s.shape.kn).heads (between (f p) (f q) (f n) pq pn.0 (slants q n s.shape.ln).0) aside.1
                (ap (λ (x : ℕ). x + 2) (sym (same_at (h m) (h n) b.2)) ∙ e);
          }

  -- either pair upwards or downwards
  second : (p q m n : ℕ) → Paired t p q m n → Along f g h p q → Along g f h m n → f q ≡ f p + 2 → Found t
  second p q m n s a b pq =
      ⊎_elim (λ e. upwards p q m n s a b pq e) (λ e. upwards p q n m (turn_last t p q m n s) a (along_back g f h m n b) pq e) (two_apart (g m) (g n) b.0)

  found : (p q m n : ℕ) → Paired t p q m n → Along f g h p q → Along g f h m n → Found t
  found p q m n s a b =
      ⊎_elim (λ e. second p q m n s a b e) (λ e. second q p m n (turn_first t p q m n s) (along_back f g h p q a) b e) (two_apart (f p) (f q) a.0)

-- by the axes of the two pairs, which differ
placed_in : (t : Four) → Rising t → (p q m n : ℕ) → Paired t p q m n → Found t
placed_in t r p q m n s = go (axial_along p q s.shape.kl) (axial_along m n s.shape.mn)
  where
    -- a cell of the ring is half way along the first pair's axis
    level : (f : ℕ → ℕ) → ((k l : ℕ) → diagonal k l ≡ true → apart (f k) (f l) ≡ 1) → apart (f p) (f q) ≡ 2 → apart (f m) (f n) ≡ 2 → ⊥
    level f d a b =
        let h = s.shape in
        let e = middle (f p) (f q) (f m) (f n) a (d p m h.km) (d q m h.lm) (d p n h.kn) (d q n h.ln) in
        omega arith

    x_y : (k l i j : ℕ) → Paired t k l i j → Along x_of y_of z_of k l → Along y_of x_of z_of i j → Found t
    x_y =
        found x_of y_of z_of by_xy (λ k l a b c e x y z. record { heads = e; x = x; y = y; z = z })
        (λ k l e. let d = slant k l e in (d.x, d.y, d.z)) (at_in ways (way by_xy up1) 0 (omega arith)) (at_in ways (way by_xy up1) 1 (omega arith)) t r

    x_z : (k l i j : ℕ) → Paired t k l i j → Along x_of z_of y_of k l → Along z_of x_of y_of i j → Found t
    x_z =
        found x_of z_of y_of by_xz (λ k l a b c e x z y. record { heads = e; x = x; y = y; z = z })
        (λ k l e. let d = slant k l e in (d.x, d.z, d.y)) (at_in ways (way by_xy up1) 2 (omega arith)) (at_in ways (way by_xy up1) 3 (omega arith)) t r

    y_z : (k l i j : ℕ) → Paired t k l i j → Along y_of z_of x_of k l → Along z_of y_of x_of i j → Found t
    y_z =
        found y_of z_of x_of by_yz (λ k l a b c e y z x. record { heads = e; x = x; y = y; z = z })
        (λ k l e. let d = slant k l e in (d.y, d.z, d.x)) (at_in ways (way by_xy up1) 4 (omega arith)) (at_in ways (way by_xy up1) 5 (omega arith)) t r

    other : Paired t m n p q
    other = turn_pairs t p q m n s

    go : Straight x_of y_of z_of p q → Straight x_of y_of z_of m n → Found t
    go (inl a) (inl b) = absurd (level x_of (λ k l e. (slant k l e).x) a.0 b.0)
    go (inl a) (inr (inl b)) = x_y p q m n s a b
    go (inl a) (inr (inr b)) = x_z p q m n s (a.0, a.2, a.1) b
    go (inr (inl a)) (inl b) = x_y m n p q other b a
    go (inr (inl a)) (inr (inl b)) = absurd (level y_of (λ k l e. (slant k l e).y) a.0 b.0)
    go (inr (inl a)) (inr (inr b)) = y_z p q m n s (a.0, a.2, a.1) (b.0, b.2, b.1)
    go (inr (inr a)) (inl b) = x_z m n p q other (b.0, b.2, b.1) a
    go (inr (inr a)) (inr (inl b)) = y_z m n p q other (b.0, b.2, b.1) (a.0, a.2, a.1)
    go (inr (inr a)) (inr (inr b)) = absurd (level z_of (λ k l e. (slant k l e).z) a.0 b.0)

-- ---- how many

-- a tetrahedron has at most two triangles
cut_few : (vertex : Corner → Corner → ℕ) (ins outs : List Corner) → length (cut vertex ins outs) ≤ 2
unfolding cut
cut_few vertex ins outs = go (eqb (length ins) 1) (eqb (length ins) 2) (eqb (length ins) 3)
  where
    go :
        (p q r : Bool)
        → length
        (cond p (alone vertex (nth ins 0) outs)
        (cond q (halves vertex (nth ins 0) (nth ins 1) (nth outs 0) (nth outs 1)) (cond r (alone vertex (nth outs 0) ins) []))) ≤ 2
    go true q r = omega arith
    go false true r = omega arith
    go false false true = omega arith
    go false false false = omega arith

cut_by_few : (vertex : Corner → Corner → ℕ) (within : Corner → Bool) → length (cut_by vertex within) ≤ 2
unfolding cut_by
cut_by_few vertex within = cut_few vertex (kept within corners) (kept (λ (c : Corner). not (within c)) corners)

module _ (rows : List Row) (up : ascending (keys_of rows) ≡ true) where
  -- each cell with weight above 0, with each way
  abbrev marks : ℕ → List (ℕ × Three Offset)
  marks k = map (λ (w : Three Offset). (k, w)) ways

  weighted_few : length (weighted_keys rows) ≤ length rows
  weighted_few = omega (arith, length-map (kept weighted rows) (λ (r : Row). r.key), kept_both weighted rows)

  marked : (t : Four) → t ∈ tetrahedra rows → (b : ℕ × Three Offset) × (b ∈ joined marks (weighted_keys rows)) × Placed t b.0 b.1
  unfolding Found holds
  marked t m =
      let s = paired t (clique_in rows up t m) in
      let f = placed_in t (rising_in rows up t m) s.0 s.1 s.2 s.3 s.4 in
      let p : ℕ = f.0 in
      let own : holds p t ≡ true = f.3.held p ∙ or_first_true (eqb p p) _ (eq-eqb p p refl) in
      let c = holds_corner p t own in
      let i : p ∈ weighted_keys rows = Memᴰ.cast (sym c.1) (corner_in rows up t m c.0) in
      ((p, f.1), in_joined marks (weighted_keys rows) i (in_map (λ (w : Three Offset). (p, w)) ways f.2), f.3)

  -- at most 6 tetrahedra to a row
  pub tetrahedra_few : length (tetrahedra rows) ≤ 6 * length rows
  tetrahedra_few =
      let most =
      no_more (λ t b. Placed t b.0 b.1) (tetrahedra rows) (joined marks (weighted_keys rows)) (tetrahedra_are rows up).once marked
      (λ t u b. one_placed t u b.0 b.1) in
      let few = joined_few marks 6 (λ k. omega arith) (weighted_keys rows) in
      omega (arith, weighted_few)

  -- at most 12 triangles
  pub triangles_few : length (closed_triangles rows) ≤ 12 * length rows
  unfolding closed_triangles
  triangles_few =
      let few =
      joined_few (triangles_of rows (closed_edges rows)) 2
      (λ t. cut_by_few (vertex_of (closed_edges rows) t) (λ (c : Corner). inside_at rows (at t c))) (tetrahedra rows) in
      omega (arith, tetrahedra_few)

  -- at most 7 vertices
  pub vertices_few : length (closed_edges rows) ≤ 7 * length rows
  vertices_few = edges_few (crosses_in rows) rows up

  -- of at most 65,536 rows: at most 458,752 vertices and 786,432 triangles, which fit in 1,048,576 places
  module _ (table : length rows ≤ 65536) where
    pub vertices_room : length (closed_edges rows) ≤ 458752
    vertices_room = omega (arith, vertices_few)

    pub triangles_room : length (closed_triangles rows) ≤ 786432
    triangles_room = omega (arith, triangles_few)

    pub vertices_fit : length (closed_edges rows) ≤ 1048576
    vertices_fit = omega (arith, vertices_room)

    pub triangles_fit : length (closed_triangles rows) ≤ 1048576
    triangles_fit = omega (arith, triangles_room)
