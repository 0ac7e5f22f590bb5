-- On lists that hold a table's closed edges and triangles, what is asked of the lists is what the definition asks of the table.
-- Assumes nothing.
use Prim.Native.Nat.{ℕ, zero, suc, ◌+◌, ◌<◌, ◌≤◌}
use native.Mathlib.Numerals.{add-one}
use native.Mathlib.Omega.{arith}
use native.Mathlib.Nat.{not-suc-le-zero, le_of_suc-le-suc}
use mathlib.Core.Path.{◌≡◌, refl, sym, ap, ap₂, ◌∙◌, subst}
use mathlib.Core.Logic.{⊎_elim}
use mathlib.Core.Bool.{Bool, true}
use mathlib.Core.List.Memᴰ
use mathlib.Core.List.{List, [], ◌∷◌, ◌++◌, map}
use lib.Dec.{eqb}
use lib.Ieee.{Float, nan, lt}
use lib.ListN.{length, get_or, set, take, drop, length-take, length-drop, length-append, length-map}
use lib.Seq.{drop-cons, set_at, take-suc, append_snoc, get_or_at, get_or-take, length-take-le, take_all}
use borrow.Author.Tests.{eq-eqb, le-ltb, lt-ltb}
use Rattle.floats.specs.Floats.{zero32}
use Rattle.lists.specs.Lists.{◌∈◌, Ordered}
use Rattle.lists.specs.Threes.{Three, three, column1, column2, rejoined}
use Rattle.lists.proofs.ListLaws.{at_in, in_map}
use Rattle.search.specs.Keys.{ascending, place_of}
use Rattle.search.proofs.KeyLaws.{ascending_keys, ascending_order}
use Rattle.search.proofs.NearbyLaws.{near_place}
use Rattle.search.specs.Nearby.{place_near}
use Rattle.table.specs.Table.{Row, rows_of}
use Rattle.table.specs.Rows.{keys_of}
use Rattle.table.proofs.Laying.{columns}
use Rattle.edges.specs.Edges.{Edge, edge}
use Rattle.edges.proofs.EdgeLaws.{edges_in_lem}
use Rattle.edges.proofs.ListingLaws.{rows_rise}
use Rattle.edges.proofs.ZeroCrossingLaws.{lattice}
use Rattle.neighbors.specs.Neighbors.{neighbours, adjacent}
use Rattle.groups.specs.Groups.{edge_at}
use Rattle.groups.specs.CellEdges.{paired}
use Rattle.tetrahedra.specs.ClosedEdges.{inside_at, crosses_in, closed_edges}
use Rattle.tetrahedra.specs.ClosedTriangles.{closed_triangles}
use Rattle.tetrahedra.specs.Closing.{names}
use Rattle.tetrahedra.proofs.Corners.{or_first_true, or_second_true}
use Rattle.tetrahedra.proofs.ClosingLaws.{side_small}
use Rattle.winding.specs.declared.Spot.{Spot}
use Rattle.winding.specs.Spots.{halfway, in_front}
use Rattle.winding.specs.Winding.{looks_in, turn_if, outwards, turned_triangles}
use Rattle.cutting.proofs.OwnLaws.{side_at}
use Rattle.turning.specs.Steps.{Numbers, looks_at, three_at, turned_at, AtHand, Ready}

-- ---- by the inside one of two cells

pub by_inner : (a b c : Spot) {k k' : ℕ} {r : Bool} → r ≡ in_front a b c (halfway k k) → k ≡ k' → r ≡ in_front a b c (halfway k' k')
by_inner a b c e f = e ∙ ap (λ (k : ℕ). in_front a b c (halfway k k)) f

-- ---- lists

-- a key of ascending ones stands at its place
key_place : (k : ℕ) (ks : List ℕ) → Ordered ◌<◌ ks → k ∈ ks → (place_of k ks < length ks) × (get_or ks (place_of k ks) 0 ≡ k)
unfolding place_of Ordered
key_place k [] o m = absurd (Memᴰ.not-nil m)
key_place k (l ∷ ls) o m =
    ⊎_elim (λ e. rw (le-ltb l k (omega arith)) (omega arith, sym e))
    (λ i. let r = key_place k ls o.1 i in rw (lt-ltb l k (o.0 k i)) (omega (arith, r.0), r.1)) (Memᴰ.cases_cons m)

paired_at : (first second : List ℕ) (i : ℕ) → i < length first → length second ≡ length first
    → get_or (paired first second) i (edge 0 0) ≡ edge (get_or first i 0) (get_or second i 0)
unfolding paired
paired_at [] second i h e = absurd (not-suc-le-zero h)
paired_at (a ∷ as') [] i h e = absurd (omega arith)
paired_at (a ∷ as') (b ∷ bs) zero h e = refl
paired_at (a ∷ as') (b ∷ bs) (suc i) h e = paired_at as' bs i (le_of_suc-le-suc h) (omega arith)

rejoined_at : (is js ls : List ℕ) (i : ℕ) → i < length is → i < length js → i < length ls → get_or (rejoined is js ls) i (three 0 0 0) ≡ three_at is js ls i
unfolding rejoined
rejoined_at [] js ls i a b c = absurd (not-suc-le-zero a)
rejoined_at (x ∷ xs) [] ls i a b c = absurd (not-suc-le-zero b)
rejoined_at (x ∷ xs) (y ∷ ys) [] i a b c = absurd (not-suc-le-zero c)
rejoined_at (x ∷ xs) (y ∷ ys) (z ∷ zs) zero a b c = refl
rejoined_at (x ∷ xs) (y ∷ ys) (z ∷ zs) (suc i) a b c = rejoined_at xs ys zs i (le_of_suc-le-suc a) (le_of_suc-le-suc b) (le_of_suc-le-suc c)

rejoined_length : (is js ls : List ℕ) (n : ℕ) → n ≤ length is → n ≤ length js → n ≤ length ls → n ≤ length (rejoined is js ls)
unfolding rejoined
rejoined_length is js ls zero a b c = omega arith
rejoined_length [] js ls (suc n) a b c = absurd (not-suc-le-zero a)
rejoined_length (x ∷ xs) [] ls (suc n) a b c = absurd (not-suc-le-zero b)
rejoined_length (x ∷ xs) (y ∷ ys) [] (suc n) a b c = absurd (not-suc-le-zero c)
rejoined_length (x ∷ xs) (y ∷ ys) (z ∷ zs) (suc n) a b c =
    let h = rejoined_length xs ys zs n (le_of_suc-le-suc a) (le_of_suc-le-suc b) (le_of_suc-le-suc c) in omega arith

-- a list with its first i places written
abbrev pub written : List ℕ → ℕ → List ℕ → List ℕ
written xs i l = take i xs ++ drop i l

module _ (l xs : List ℕ) (i : ℕ) (h : i < length l) where
  -- what stands there is as it was,
  unwritten : i ≤ length xs → get_or (written xs i l) i 0 ≡ get_or l i 0
  unwritten g =
      ap (λ (r : List ℕ). get_or (take i xs ++ r) i 0) (drop-cons l i 0 h)
      ∙ get_or_at (take i xs) (get_or l i 0) (drop (suc i) l) 0 i (length-take-le i xs g)

  -- until it is written
  written_next : i < length xs → set (written xs i l) i (get_or xs i 0) ≡ written xs (i + 1) l
  written_next g =
      ap (λ (r : List ℕ). set (take i xs ++ r) i (get_or xs i 0)) (drop-cons l i 0 h)
      ∙ set_at (take i xs) (get_or l i 0) (drop (suc i) l) (get_or xs i 0) i (length-take-le i xs (omega arith))
      ∙ sym (append_snoc (take i xs) (get_or xs i 0) (drop (suc i) l))
      ∙ ap (λ (r : List ℕ). r ++ drop (suc i) l) (sym (take-suc xs i 0 g)) ∙ ap (λ (k : ℕ). written xs k l) (sym (add-one i))

written_all : (xs l : List ℕ) (n : ℕ) → length xs ≡ n → written xs n l ≡ xs ++ drop n l
written_all xs l n e = ap (λ (r : List ℕ). r ++ drop n l) (take_all n xs (omega arith))

written_length : (xs l : List ℕ) (i : ℕ) → i ≤ length xs → i ≤ length l → length (written xs i l) ≡ length l
written_length xs l i g h = omega (arith, length-append (take i xs) (drop i l), length-take-le i xs g, length-drop i l)

map_at : {A B : Type 0} (f : A → B) (l : List A) (i : ℕ) (d : A) (d' : B) → i < length l → get_or (map f l) i d' ≡ f (get_or l i d)
map_at f [] i d d' h = absurd (not-suc-le-zero h)
map_at f (x ∷ xs) zero d d' h = refl
map_at f (x ∷ xs) (suc i) d d' h = map_at f xs i d d' (le_of_suc-le-suc h)

-- ---- lists that hold the closed edges and triangles of a table

module _ (ks : List ℕ) (ds ws : List Float) (n : ℕ) (first second : List ℕ) (m : ℕ) (is js ls : List ℕ) (j : ℕ)
    (ready : Ready ks ds ws n first second m is js ls j) where
  abbrev rows : List Row
  rows = rows_of ks ds ws n

  abbrev es : List Edge
  es = closed_edges rows

  abbrev ts : List (Three ℕ)
  ts = closed_triangles rows

  up : ascending (keys_of rows) ≡ true
  up = rows_rise ks ds ws n ready.accepted

  keys_are : keys_of rows ≡ take n ks
  keys_are = (columns ks ds ws n ready.accepted.distances ready.accepted.weights).0

  -- ---- the counts

  pub triangles_count : length ts ≡ j
  triangles_count =
      ap length (sym ready.triangles)
      ∙ length-take-le j (rejoined is js ls) (rejoined_length is js ls j ready.t0 ready.t1 ready.t2)

  edges_below : length es ≤ length first
  edges_below = omega (arith, ap length ready.edges, length-take m (paired first second), ready.fits)

  -- ---- an edge

  module _ (u : ℕ) (h : u < length es) where
    edge_here : edge_at es u ≡ edge (get_or first u 0) (get_or second u 0)
    edge_here =
        let below : u < m = omega (arith, ap length ready.edges, length-take m (paired first second)) in
        ap (λ (l : List Edge). edge_at l u) (sym ready.edges) ∙ get_or-take m (paired first second) u (edge 0 0) below
        ∙ paired_at first second u (omega (arith, edges_below)) ready.even

    -- its first cell is a row's, which a search from anywhere finds
    first_key : get_or first u 0 ∈ take n ks
    first_key =
        let e = edges_in_lem neighbours adjacent (crosses_in rows) rows lattice (at_in es (edge 0 0) u h) in
        let same : get_or first u 0 ≡ e.0.key = ap (λ (x : Edge). x.first) (sym edge_here ∙ e.4) in
        subst (λ (l : List ℕ). get_or first u 0 ∈ l) keys_are
        (subst (λ (k : ℕ). k ∈ keys_of rows) (sym same) (in_map (λ (r : Row). r.key) rows e.2.stored))

    module _ (near from : ℕ) (e : near ≡ place_near (get_or first u 0) (take n ks) from) where
      place : near ≡ place_of (get_or first u 0) (take n ks)
      place = e ∙ near_place (get_or first u 0) (take n ks) from (ascending_order (take n ks) ready.accepted.rising)

      there : (near < length (take n ks)) × (get_or (take n ks) near 0 ≡ get_or first u 0)
      there = rw place (key_place (get_or first u 0) (take n ks) (ascending_keys (take n ks) ready.accepted.rising) first_key)

      pub near_below : near < n
      near_below = omega (arith, there.0, length-take n ks)

      pub side_there : lt (get_or ds near nan) zero32 ≡ inside_at rows (get_or first u 0)
      side_there =
          side_at ks ds ws n ready.accepted near near_below ∙ ap (inside_at rows) (sym (get_or-take n ks near 0 near_below) ∙ there.1)

  -- ---- a triangle

  module _ (i : ℕ) (h : i < j) where
    triangle_here : get_or ts i (three 0 0 0) ≡ three_at is js ls i
    triangle_here =
        ap (λ (l : List (Three ℕ)). get_or l i (three 0 0 0)) (sym ready.triangles) ∙ get_or-take j (rejoined is js ls) i (three 0 0 0) h
        ∙ rejoined_at is js ls i (omega (arith, ready.t0)) (omega (arith, ready.t1)) (omega (arith, ready.t2))

    triangle_in : three_at is js ls i ∈ ts
    triangle_in = subst (λ (f : Three ℕ). f ∈ ts) triangle_here (at_in ts (three 0 0 0) i (omega (arith, triangles_count)))

    abbrev f : Three ℕ
    f = three_at is js ls i

    pub a_below : f.a < length es
    unfolding names
    a_below = side_small rows up f triangle_in f.a (or_first_true (eqb f.a f.a) _ (eq-eqb f.a f.a refl))

    b_below : f.b < length es
    unfolding names
    b_below =
        side_small rows up f triangle_in f.b
        (or_second_true (eqb f.a f.b) _ (or_first_true (eqb f.b f.b) _ (eq-eqb f.b f.b refl)))

    c_below : f.c < length es
    unfolding names
    c_below =
        side_small rows up f triangle_in f.c
        (or_second_true (eqb f.a f.c) _ (or_second_true (eqb f.b f.c) _ (eq-eqb f.c f.c refl)))

    pub a_first : f.a < length first
    a_first = omega (arith, a_below, edges_below)

    pub numbers_here : Numbers first second f
    numbers_here =
        record {
          even = ready.even;
          a = a_first;
          b = omega (arith, b_below, edges_below);
          c = omega (arith, c_below, edges_below);
        }

    -- it looks inwards by the lists where it does by the definition
    pub looks_here : (side : Bool) → side ≡ inside_at rows (get_or first f.a 0) → looks_at side first second f ≡ looks_in rows es f
    unfolding looks_at looks_in
    looks_here side e = rw (e, edge_here f.a a_below, edge_here f.b b_below, edge_here f.c c_below)

  -- ---- the loop

  abbrev pub turned1 : List ℕ
  turned1 = column1 (turned_triangles rows)

  abbrev pub turned2 : List ℕ
  turned2 = column2 (turned_triangles rows)

  turned_count : length (turned_triangles rows) ≡ j
  unfolding turned_triangles
  turned_count = length-map ts (outwards rows es) ∙ triangles_count

  count1 : length turned1 ≡ j
  count1 = length-map (turned_triangles rows) (λ (f : Three ℕ). f.b) ∙ turned_count

  count2 : length turned2 ≡ j
  count2 = length-map (turned_triangles rows) (λ (f : Three ℕ). f.c) ∙ turned_count

  -- writing keeps the lengths
  pub long1 : (i : ℕ) → i ≤ j → (t1 : List ℕ) → t1 ≡ written turned1 i js → length t1 ≡ length js
  long1 i h t1 e = ap length e ∙ written_length turned1 js i (omega (arith, count1)) (omega (arith, ready.t1))

  pub long2 : (i : ℕ) → i ≤ j → (t2 : List ℕ) → t2 ≡ written turned2 i ls → length t2 ≡ length ls
  long2 i h t2 e = ap length e ∙ written_length turned2 ls i (omega (arith, count2)) (omega (arith, ready.t2))

  -- all are written
  pub done1 : (i : ℕ) → j ≤ i → i ≤ j → (t1 : List ℕ) → t1 ≡ written turned1 i js → t1 ≡ turned1 ++ drop j js
  done1 i g h t1 e = let same : i ≡ j = omega arith in e ∙ ap (λ (k : ℕ). written turned1 k js) same ∙ written_all turned1 js j count1

  pub done2 : (i : ℕ) → j ≤ i → i ≤ j → (t2 : List ℕ) → t2 ≡ written turned2 i ls → t2 ≡ turned2 ++ drop j ls
  done2 i g h t2 e = let same : i ≡ j = omega arith in e ∙ ap (λ (k : ℕ). written turned2 k ls) same ∙ written_all turned2 ls j count2

  module _ (i : ℕ) (h : i < j) (t1 t2 : List ℕ) (e1 : t1 ≡ written turned1 i js) (e2 : t2 ≡ written turned2 i ls) where
    same_there : three_at is t1 t2 i ≡ three_at is js ls i
    same_there =
        let b : get_or t1 i 0 ≡ get_or js i 0 = rw e1 (unwritten js turned1 i (omega (arith, ready.t1)) (omega (arith, count1))) in
        let c : get_or t2 i 0 ≡ get_or ls i 0 = rw e2 (unwritten ls turned2 i (omega (arith, ready.t2)) (omega (arith, count2))) in
        rw (b, c)

    pub at_hand : AtHand first second is t1 t2 i
    at_hand =
        let l1 = long1 i (omega arith) t1 e1 in
        let l2 = long2 i (omega arith) t2 e2 in
        record {
          numbers = subst (Numbers first second) (sym same_there) (numbers_here i h);
          t0 = omega (arith, ready.t0);
          t1 = omega (arith, l1, ready.t1);
          t2 = omega (arith, l2, ready.t2);
        }

    -- the triangle there, turned where it looks inwards, is the definition's
    turned_there : (side : Bool) → side ≡ inside_at rows (get_or first (get_or is i 0) 0)
        → turned_at side first second is t1 t2 i ≡ get_or (turned_triangles rows) i (three 0 0 0)
    unfolding turned_triangles
    turned_there side e =
        ap (λ (f : Three ℕ). turn_if (looks_at side first second f) f) same_there
        ∙ ap (λ (b : Bool). turn_if b (three_at is js ls i)) (looks_here i h side e)
        ∙ ap (outwards rows es) (sym (triangle_here i h))
        ∙ sym (map_at (outwards rows es) ts i (three 0 0 0) (three 0 0 0) (omega (arith, triangles_count)))

    module _ (side : Bool) (e : side ≡ inside_at rows (get_or first (get_or is i 0) 0)) where
      pub next1 : set t1 i (turned_at side first second is t1 t2 i).b ≡ written turned1 (i + 1) js
      next1 =
          ap₂ (λ (l : List ℕ) (v : ℕ). set l i v) e1
          (ap (λ (f : Three ℕ). f.b) (turned_there side e)
          ∙ sym (map_at (λ (f : Three ℕ). f.b) (turned_triangles rows) i (three 0 0 0) 0 (omega (arith, turned_count))))
          ∙ written_next js turned1 i (omega (arith, ready.t1)) (omega (arith, count1))

      pub next2 : set t2 i (turned_at side first second is t1 t2 i).c ≡ written turned2 (i + 1) ls
      next2 =
          ap₂ (λ (l : List ℕ) (v : ℕ). set l i v) e2
          (ap (λ (f : Three ℕ). f.c) (turned_there side e)
          ∙ sym (map_at (λ (f : Three ℕ). f.c) (turned_triangles rows) i (three 0 0 0) 0 (omega (arith, turned_count))))
          ∙ written_next ls turned2 i (omega (arith, ready.t2)) (omega (arith, count2))
