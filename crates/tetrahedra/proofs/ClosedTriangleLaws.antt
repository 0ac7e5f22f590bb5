-- The triangle list holds every triangle of a tetrahedron of the table, each once, by tetrahedra, and no other; no other list does. A triangle tells its
-- tetrahedron; a single triangle is ascending.
-- Assumes nothing.
use Prim.Native.Nat.{ℕ, ◌<◌, ◌≤◌}
use native.Mathlib.Omega.{arith}
use mathlib.Core.Path.{◌≡◌, refl, sym, ap, ◌∙◌, subst}
use mathlib.Core.Logic.{◌⊎◌, inl, inr, ⊎_elim}
use mathlib.Core.Bool.{Bool, true, false, cond, ◌&&◌, ◌||◌, false≢true}
use mathlib.Core.List.Memᴰ
use mathlib.Core.List.{List, [], ◌∷◌}
use lib.Dec.{eqb, leb}
use lib.Ieee.{unlike}
use lib.ListN.{length}
use borrow.Author.Tests.{eq-eqb, eqb-true, leb-true, leb-false}
use Rattle.lists.specs.Lists.{◌∈◌, Ordered, Distinct, Ahead, kept}
use Rattle.lists.proofs.ListLaws.{joined_in, in_joined, joined_ordered, ordered_weaken, ahead_ordered, ahead_asym, one_order}
use Rattle.lists.proofs.Bools.{and_first, and_second, or_cases}
use Rattle.search.specs.Keys.{ascending}
use Rattle.table.specs.Table.{Row}
use Rattle.table.specs.Rows.{keys_of}
use Rattle.edges.specs.Edges.{Edge}
use Rattle.edges.specs.EdgeList.{pair_of}
use Rattle.groups.specs.Groups.{edge_at}
use Rattle.lists.specs.Threes.{Three, three}
use Rattle.tetrahedra.specs.Fours.{Four, Corner, c0, c1, c2, c3, at, holds, Dictionary4}
use Rattle.tetrahedra.specs.Tetrahedra.{tetrahedra}
use Rattle.tetrahedra.specs.ClosedEdges.{inside_at, closed_edges}
use Rattle.tetrahedra.specs.ClosedTriangles.{vertex_of, rising, alone, halves, cut, cut_by, triangles_of, closed_triangles}
use Rattle.tetrahedra.specs.ClosedTriangleList.{Of, Before, IsClosedTriangleList}
use Rattle.tetrahedra.specs.Closing.{names}
use Rattle.tetrahedra.proofs.Corners.{eqc, corner_eq, or_first_true, or_second_true, every_corner, at_corner, corner_holds, same_four}
use Rattle.tetrahedra.proofs.Numbers.{same_edge_lem, edge_same, pair_same, number_is, number_small}
use Rattle.tetrahedra.proofs.Local.{signs, signs_are, same_pair, names_rising}
use Rattle.tetrahedra.proofs.FourLaws.{dictionary4_asym}
use Rattle.tetrahedra.proofs.TetrahedronLaws.{tetrahedra_are, rising_in}
use Rattle.tetrahedra.proofs.ClosedEdgeLaws.{crossed_in, edges_distinct}
use Rattle.tetrahedra.proofs.CutLaws.{cut_between}
use Rattle.tetrahedra.proofs.ClosingLaws.{pair_corners}

-- ---- a triangle touches every corner of its tetrahedron

-- corner c is an end of the pair i, j
touch : Corner → Corner → Corner → Bool
touch c i j = eqc i c || eqc j c

touch3 : Corner → Corner → Corner → Corner → Corner → Corner → Corner → Bool
unfolding touch
touch3 i j k l m n c = touch c i j || (touch c k l || touch c m n)

module _ (vertex : Corner → Corner → ℕ) (within : Corner → Bool) where
  -- a vertex that a triangle names, between corners of which one is c
  record Touching (f : Three ℕ) (c : Corner) : Type 0 where
    i : Corner
    j : Corner
    crossed : unlike (within i) (within j) ≡ true
    end : (i ≡ c) ⊎ (j ≡ c)
    named : names (vertex i j) f ≡ true

  end_of : (c i j : Corner) → touch c i j ≡ true → (i ≡ c) ⊎ (j ≡ c)
  unfolding touch
  end_of c i j e = ⊎_elim (λ p. inl (corner_eq i c p)) (λ p. inr (corner_eq j c p)) (or_cases (eqc i c) (eqc j c) e)

  -- three vertices that touch all corners
  by_three : (f : Three ℕ) (i j k l m n : Corner) → ((u : ℕ) → names u f ≡ (eqb (vertex i j) u || (eqb (vertex k l) u || eqb (vertex m n) u)))
      → unlike (within i) (within j) ≡ true → unlike (within k) (within l) ≡ true → unlike (within m) (within n) ≡ true
      → every_corner (touch3 i j k l m n) ≡ true → (c : Corner) → Touching f c
  unfolding touch3
  by_three f i j k l m n h p q r e c =
      let self : (u : ℕ) → eqb u u ≡ true = λ u. eq-eqb u u refl in
      ⊎_elim
      (λ t. record { i = i; j = j; crossed = p; end = end_of c i j t; named = h (vertex i j) ∙ or_first_true _ _ (self (vertex i j)) })
      (λ s. ⊎_elim
      (λ t. record {
        i = k;
        j = l;
        crossed = q;
        end = end_of c k l t;
        named = h (vertex k l) ∙ or_second_true (eqb (vertex i j) (vertex k l)) _ (or_first_true _ _ (self (vertex k l)));
      })
      (λ t. record {
        i = m;
        j = n;
        crossed = r;
        end = end_of c m n t;
        named = h (vertex m n) ∙ or_second_true (eqb (vertex i j) (vertex m n)) _ (or_second_true (eqb (vertex k l) (vertex m n)) _ (self (vertex m n)));
      })
      (or_cases (touch c k l) (touch c m n) s))
      (or_cases (touch c i j) (touch c k l || touch c m n) (at_corner (touch3 i j k l m n) e c))

names_three : (u x y z : ℕ) → names u (three x y z) ≡ (eqb x u || (eqb y u || eqb z u))
unfolding names
names_three u x y z = refl

-- three different numbers
pub record Different (f : Three ℕ) : Type 0 where
  pub ab : f.a ≡ f.b → ⊥
  pub ac : f.a ≡ f.c → ⊥
  pub bc : f.b ≡ f.c → ⊥

carry : {f g : Three ℕ} → f ≡ g → Different g → Different f
carry e d = subst Different (sym e) d

rising_different : (x y z : ℕ) → (x ≡ y → ⊥) → (x ≡ z → ⊥) → (y ≡ z → ⊥) → Different (rising x y z)
unfolding rising
rising_different x y z xy xz yz = go (leb x y) (leb y z) (leb x z)
  where
    go :
        (p q r : Bool)
        → Different (cond p (cond q (three x y z) (cond r (three x z y) (three z x y))) (cond r (three y x z) (cond q (three y z x) (three z y x))))
    go true true r = record { ab = xy; ac = xz; bc = yz }
    go true false true = record { ab = xz; ac = xy; bc = λ e. yz (sym e) }
    go true false false = record { ab = λ e. xz (sym e); ac = λ e. yz (sym e); bc = xy }
    go false q true = record { ab = λ e. xy (sym e); ac = yz; bc = xz }
    go false true false = record { ab = yz; ac = λ e. xy (sym e); bc = λ e. xz (sym e) }
    go false false false = record { ab = λ e. yz (sym e); ac = λ e. xz (sym e); bc = λ e. xy (sym e) }

-- by the signs of the corners
module _ (vertex : Corner → Corner → ℕ) where
  one_touches : (w : Corner → Bool) (f : Three ℕ) (i j k l m n : Corner) → f ≡ rising (vertex i j) (vertex k l) (vertex m n)
      → unlike (w i) (w j) ≡ true → unlike (w k) (w l) ≡ true → unlike (w m) (w n) ≡ true
      → every_corner (touch3 i j k l m n) ≡ true → (c : Corner) → Touching vertex w f c
  one_touches w f i j k l m n e =
      by_three vertex w f i j k l m n (λ u. ap (names u) e ∙ names_rising u (vertex i j) (vertex k l) (vertex m n))

  half_touches : (w : Corner → Bool) (f : Three ℕ) (i j k l m n : Corner) → f ≡ three (vertex i j) (vertex k l) (vertex m n)
      → unlike (w i) (w j) ≡ true → unlike (w k) (w l) ≡ true → unlike (w m) (w n) ≡ true
      → every_corner (touch3 i j k l m n) ≡ true → (c : Corner) → Touching vertex w f c
  half_touches w f i j k l m n e =
      by_three vertex w f i j k l m n (λ u. ap (names u) e ∙ names_three u (vertex i j) (vertex k l) (vertex m n))

  touches_by : (b0 b1 b2 b3 : Bool) (f : Three ℕ) → f ∈ cut_by vertex (signs b0 b1 b2 b3) → (c : Corner) → Touching vertex (signs b0 b1 b2 b3) f c
  unfolding cut_by cut kept touch3 touch every_corner
  touches_by true true true true f m = absurd (Memᴰ.not-nil m)
  touches_by true true true false f m = one_touches (signs true true true false) f c3 c0 c3 c1 c3 c2 (Memᴰ.eq_of_singleton m) refl refl refl refl
  touches_by true true false true f m = one_touches (signs true true false true) f c2 c0 c2 c1 c2 c3 (Memᴰ.eq_of_singleton m) refl refl refl refl
  touches_by true true false false f m = ⊎_elim (λ e. half_touches (signs true true false false) f c0 c2 c0 c3 c1 c3 e refl refl refl refl)
      (λ n. half_touches (signs true true false false) f c0 c2 c1 c3 c1 c2 (Memᴰ.eq_of_singleton n) refl refl refl refl) (Memᴰ.cases_cons m)
  touches_by true false true true f m = one_touches (signs true false true true) f c1 c0 c1 c2 c1 c3 (Memᴰ.eq_of_singleton m) refl refl refl refl
  touches_by true false true false f m = ⊎_elim (λ e. half_touches (signs true false true false) f c0 c1 c0 c3 c2 c3 e refl refl refl refl)
      (λ n. half_touches (signs true false true false) f c0 c1 c2 c3 c2 c1 (Memᴰ.eq_of_singleton n) refl refl refl refl) (Memᴰ.cases_cons m)
  touches_by true false false true f m = ⊎_elim (λ e. half_touches (signs true false false true) f c0 c1 c0 c2 c3 c2 e refl refl refl refl)
      (λ n. half_touches (signs true false false true) f c0 c1 c3 c2 c3 c1 (Memᴰ.eq_of_singleton n) refl refl refl refl) (Memᴰ.cases_cons m)
  touches_by true false false false f m = one_touches (signs true false false false) f c0 c1 c0 c2 c0 c3 (Memᴰ.eq_of_singleton m) refl refl refl refl
  touches_by false true true true f m = one_touches (signs false true true true) f c0 c1 c0 c2 c0 c3 (Memᴰ.eq_of_singleton m) refl refl refl refl
  touches_by false true true false f m = ⊎_elim (λ e. half_touches (signs false true true false) f c1 c0 c1 c3 c2 c3 e refl refl refl refl)
      (λ n. half_touches (signs false true true false) f c1 c0 c2 c3 c2 c0 (Memᴰ.eq_of_singleton n) refl refl refl refl) (Memᴰ.cases_cons m)
  touches_by false true false true f m = ⊎_elim (λ e. half_touches (signs false true false true) f c1 c0 c1 c2 c3 c2 e refl refl refl refl)
      (λ n. half_touches (signs false true false true) f c1 c0 c3 c2 c3 c0 (Memᴰ.eq_of_singleton n) refl refl refl refl) (Memᴰ.cases_cons m)
  touches_by false true false false f m = one_touches (signs false true false false) f c1 c0 c1 c2 c1 c3 (Memᴰ.eq_of_singleton m) refl refl refl refl
  touches_by false false true true f m = ⊎_elim (λ e. half_touches (signs false false true true) f c2 c0 c2 c1 c3 c1 e refl refl refl refl)
      (λ n. half_touches (signs false false true true) f c2 c0 c3 c1 c3 c0 (Memᴰ.eq_of_singleton n) refl refl refl refl) (Memᴰ.cases_cons m)
  touches_by false false true false f m = one_touches (signs false false true false) f c2 c0 c2 c1 c2 c3 (Memᴰ.eq_of_singleton m) refl refl refl refl
  touches_by false false false true f m = one_touches (signs false false false true) f c3 c0 c3 c1 c3 c2 (Memᴰ.eq_of_singleton m) refl refl refl refl
  touches_by false false false false f m = absurd (Memᴰ.not-nil m)

  -- two triangles of which one names another vertex in the second place
  halves_differ : (p q r s : Corner) → (vertex p s ≡ vertex q s → ⊥)
      → Distinct (three (vertex p r) (vertex p s) (vertex q s) ∷ three (vertex p r) (vertex q s) (vertex q r) ∷ [])
  unfolding Ordered
  halves_differ p q r s n =
      (λ y m e. n (ap (λ (t : Three ℕ). t.b) (e ∙ Memᴰ.eq_of_singleton m)), (λ y m. absurd (Memᴰ.not-nil m), tt))

  -- different crossed pairs have different vertices
  abbrev Apart : (Corner → Bool) → Type 0
  Apart w = (i j k l : Corner) → unlike (w i) (w j) ≡ true → vertex i j ≡ vertex k l → same_pair i j k l ≡ true

  distinct_by : (b0 b1 b2 b3 : Bool) → Apart (signs b0 b1 b2 b3) → Distinct (cut_by vertex (signs b0 b1 b2 b3))
  unfolding cut_by cut kept same_pair Ordered
  distinct_by true true true true inj = tt
  distinct_by true true true false inj = (λ y m. absurd (Memᴰ.not-nil m), tt)
  distinct_by true true false true inj = (λ y m. absurd (Memᴰ.not-nil m), tt)
  distinct_by true true false false inj = halves_differ c0 c1 c2 c3 (λ e. false≢true (inj c0 c3 c1 c3 refl e))
  distinct_by true false true true inj = (λ y m. absurd (Memᴰ.not-nil m), tt)
  distinct_by true false true false inj = halves_differ c0 c2 c1 c3 (λ e. false≢true (inj c0 c3 c2 c3 refl e))
  distinct_by true false false true inj = halves_differ c0 c3 c1 c2 (λ e. false≢true (inj c0 c2 c3 c2 refl e))
  distinct_by true false false false inj = (λ y m. absurd (Memᴰ.not-nil m), tt)
  distinct_by false true true true inj = (λ y m. absurd (Memᴰ.not-nil m), tt)
  distinct_by false true true false inj = halves_differ c1 c2 c0 c3 (λ e. false≢true (inj c1 c3 c2 c3 refl e))
  distinct_by false true false true inj = halves_differ c1 c3 c0 c2 (λ e. false≢true (inj c1 c2 c3 c2 refl e))
  distinct_by false true false false inj = (λ y m. absurd (Memᴰ.not-nil m), tt)
  distinct_by false false true true inj = halves_differ c2 c3 c0 c1 (λ e. false≢true (inj c2 c1 c3 c1 refl e))
  distinct_by false false true false inj = (λ y m. absurd (Memᴰ.not-nil m), tt)
  distinct_by false false false true inj = (λ y m. absurd (Memᴰ.not-nil m), tt)
  distinct_by false false false false inj = tt

  touches_all : (w : Corner → Bool) (f : Three ℕ) → f ∈ cut_by vertex w → (c : Corner) → Touching vertex w f c
  touches_all w =
      subst (λ (x : Corner → Bool). (f : Three ℕ) → f ∈ cut_by vertex x → (c : Corner) → Touching vertex x f c) (signs_are w)
      (touches_by (w c0) (w c1) (w c2) (w c3))

  distinct_cut : (w : Corner → Bool) → Apart w → Distinct (cut_by vertex w)
  distinct_cut w =
      subst (λ (x : Corner → Bool). Apart x → Distinct (cut_by vertex x)) (signs_are w) (distinct_by (w c0) (w c1) (w c2) (w c3))

  -- three different vertices: no two of the pairs are the same
  other : (w : Corner → Bool) → Apart w → (i j k l : Corner) → unlike (w i) (w j) ≡ true → same_pair i j k l ≡ false → vertex i j ≡ vertex k l → ⊥
  other w inj i j k l c d e = false≢true (sym d ∙ inj i j k l c e)

  module _ (w : Corner → Bool) (inj : Apart w) (f : Three ℕ) where
    alone_different :
        (p a b c : Corner)
        → unlike (w p) (w a) ≡ true
        → unlike (w p) (w b) ≡ true
        → same_pair p a p b ≡ false
        → same_pair p a p c ≡ false
        → same_pair p b p c ≡ false
        → f ∈ alone vertex p (a ∷ b ∷ c ∷ [])
        → Different f
    alone_different p a b c pa pb ab ac bc m =
        carry (Memᴰ.eq_of_singleton m)
        (rising_different (vertex p a) (vertex p b) (vertex p c) (other w inj p a p b pa ab) (other w inj p a p c pa ac) (other w inj p b p c pb bc))

    halves_different :
        (p q r s : Corner)
        → unlike (w p) (w r) ≡ true
        → unlike (w p) (w s) ≡ true
        → unlike (w q) (w s) ≡ true
        → same_pair p r p s ≡ false
        → same_pair p r q s ≡ false
        → same_pair p s q s ≡ false
        → same_pair p r q r ≡ false
        → same_pair q s q r ≡ false
        → f ∈ halves vertex p q r s
        → Different f
    halves_different p q r s pr ps qs a b c d e m =
        let across = other w inj p r q s pr b in
        ⊎_elim (λ i. carry i (record { ab = other w inj p r p s pr a; ac = across; bc = other w inj p s q s ps c }))
        (λ n. carry (Memᴰ.eq_of_singleton n) (record { ab = across; ac = other w inj p r q r pr d; bc = other w inj q s q r qs e }))
        (Memᴰ.cases_cons m)

  different_by : (b0 b1 b2 b3 : Bool) → Apart (signs b0 b1 b2 b3) → (f : Three ℕ) → f ∈ cut_by vertex (signs b0 b1 b2 b3) → Different f
  unfolding cut_by cut kept same_pair
  different_by true true true true inj f m = absurd (Memᴰ.not-nil m)
  different_by true true true false inj f m = alone_different (signs true true true false) inj f c3 c0 c1 c2 refl refl refl refl refl m
  different_by true true false true inj f m = alone_different (signs true true false true) inj f c2 c0 c1 c3 refl refl refl refl refl m
  different_by true true false false inj f m = halves_different (signs true true false false) inj f c0 c1 c2 c3 refl refl refl refl refl refl refl refl m
  different_by true false true true inj f m = alone_different (signs true false true true) inj f c1 c0 c2 c3 refl refl refl refl refl m
  different_by true false true false inj f m = halves_different (signs true false true false) inj f c0 c2 c1 c3 refl refl refl refl refl refl refl refl m
  different_by true false false true inj f m = halves_different (signs true false false true) inj f c0 c3 c1 c2 refl refl refl refl refl refl refl refl m
  different_by true false false false inj f m = alone_different (signs true false false false) inj f c0 c1 c2 c3 refl refl refl refl refl m
  different_by false true true true inj f m = alone_different (signs false true true true) inj f c0 c1 c2 c3 refl refl refl refl refl m
  different_by false true true false inj f m = halves_different (signs false true true false) inj f c1 c2 c0 c3 refl refl refl refl refl refl refl refl m
  different_by false true false true inj f m = halves_different (signs false true false true) inj f c1 c3 c0 c2 refl refl refl refl refl refl refl refl m
  different_by false true false false inj f m = alone_different (signs false true false false) inj f c1 c0 c2 c3 refl refl refl refl refl m
  different_by false false true true inj f m = halves_different (signs false false true true) inj f c2 c3 c0 c1 refl refl refl refl refl refl refl refl m
  different_by false false true false inj f m = alone_different (signs false false true false) inj f c2 c0 c1 c3 refl refl refl refl refl m
  different_by false false false true inj f m = alone_different (signs false false false true) inj f c3 c0 c1 c2 refl refl refl refl refl m
  different_by false false false false inj f m = absurd (Memᴰ.not-nil m)

  different_cut : (w : Corner → Bool) → Apart w → (f : Three ℕ) → f ∈ cut_by vertex w → Different f
  different_cut w =
      subst (λ (x : Corner → Bool). Apart x → (f : Three ℕ) → f ∈ cut_by vertex x → Different f) (signs_are w) (different_by (w c0) (w c1) (w c2) (w c3))

-- a pair's first is one of the other pair's two
pair_first : (a b c d : ℕ) → pair_of a b ≡ pair_of c d → ((a ≡ c) ⊎ (a ≡ d)) × ((b ≡ c) ⊎ (b ≡ d))
pair_first a b c d e =
    let t = sym (pair_same a b c d) ∙ edge_same (pair_of a b) (pair_of c d) e in
    ⊎_elim
    (λ h. (inl (eqb-true a c (and_first (eqb a c) (eqb b d) h)), inr (eqb-true b d (and_second (eqb a c) (eqb b d) h))))
    (λ h. (inr (eqb-true a d (and_first (eqb a d) (eqb b c) h)), inl (eqb-true b c (and_second (eqb a d) (eqb b c) h))))
    (or_cases (eqb a c && eqb b d) (eqb a d && eqb b c) t)

module _ (rows : List Row) (up : ascending (keys_of rows) ≡ true) where
  abbrev es : List Edge
  es = closed_edges rows

  abbrev ts : List Four
  ts = tetrahedra rows

  abbrev within : Four → Corner → Bool
  within t c = inside_at rows (at t c)

  -- the vertex between crossed corners has its place in the list, and its edge stands there
  vertex_small : (t : Four) → t ∈ ts → (i j : Corner) → unlike (within t i) (within t j) ≡ true → vertex_of es t i j < length es
  unfolding vertex_of
  vertex_small t m i j c = number_small es (pair_of (at t i) (at t j)) (crossed_in rows up t i j (record { listed = m; crossed = c }))

  -- vertices of the same number lie on the same edge
  one_edge :
      (t t' : Four)
      → t ∈ ts
      → (i j k l : Corner)
      → unlike (within t i) (within t j) ≡ true
      → vertex_of es t i j ≡ vertex_of es t' k l
      → pair_of (at t i) (at t j) ≡ pair_of (at t' k) (at t' l)
  unfolding vertex_of
  one_edge t t' m i j k l c e =
      let u : ℕ = vertex_of es t i j in
      let s = vertex_small t m i j c in
      let a = sym (number_is es (edges_distinct rows up) (pair_of (at t i) (at t j)) u s) ∙ eq-eqb u u refl in
      let b = sym (number_is es (edges_distinct rows up) (pair_of (at t' k) (at t' l)) u s) ∙ eq-eqb (vertex_of es t' k l) u (sym e) in
      same_edge_lem (pair_of (at t i) (at t j)) (edge_at es u) a ∙ sym (same_edge_lem (pair_of (at t' k) (at t' l)) (edge_at es u) b)

  apart_in : (t : Four) → t ∈ ts → Apart (vertex_of es t) (within t)
  apart_in t m i j k l c e =
      sym (pair_corners t (rising_in rows up t m) k l i j)
      ∙ edge_same (pair_of (at t k) (at t l)) (pair_of (at t i) (at t j)) (sym (one_edge t t m i j k l c e))

  -- no triangle of a tetrahedron stands twice
  distinct_of : (t : Four) → t ∈ ts → Distinct (triangles_of rows es t)
  distinct_of t m = distinct_cut (vertex_of es t) (within t) (apart_in t m)

  -- a triangle tells its tetrahedron
  pub one_tetrahedron : (f : Three ℕ) (t t' : Four) → Of rows es t f → Of rows es t' f → t ≡ t'
  one_tetrahedron f t t' a b =
      same_four t t' (rising_in rows up t a.listed) (rising_in rows up t' b.listed) (into t t' a b) (into t' t b a)
    where
      into : (x y : Four) → Of rows es x f → Of rows es y f → (c : Corner) → holds (at x c) y ≡ true
      into x y p q c =
          let g = touches_all (vertex_of es x) (within x) f p.cut c in
          let h = cut_between (vertex_of es y) (within y) f (vertex_of es x g.i g.j) q.cut g.named in
          let e = one_edge x y p.listed g.i g.j h.i h.j g.crossed (sym h.vertex_is) in
          let s = pair_first (at x g.i) (at x g.j) (at y h.i) (at y h.j) e in
          ⊎_elim
          (λ r. ⊎_elim (λ z. corner_holds y h.i (sym z ∙ ap (at x) r)) (λ z. corner_holds y h.j (sym z ∙ ap (at x) r)) s.0)
          (λ r. ⊎_elim (λ z. corner_holds y h.i (sym z ∙ ap (at x) r)) (λ z. corner_holds y h.j (sym z ∙ ap (at x) r)) s.1)
          g.end

  before_asym : (f g : Three ℕ) → Before rows es f g → Before rows es g f → ⊥
  before_asym f g p q =
      let a = one_tetrahedron f p.t q.u p.f_of q.g_of in
      let b = one_tetrahedron g p.u q.t p.g_of q.f_of in
      ⊎_elim
      (λ d. ⊎_elim
      (λ d'. dictionary4_asym p.t p.u d (rw (← a) at (rw (← b) at d')))
      (λ s. let e : p.u ≡ p.t = b ∙ s.0 ∙ sym a in let same : Dictionary4 p.t p.t = rw e at d in dictionary4_asym p.t p.t same same)
      q.order)
      (λ r. ⊎_elim
      (λ d'. let e : q.u ≡ q.t = sym a ∙ r.0 ∙ b in let same : Dictionary4 q.t q.t = rw e at d' in dictionary4_asym q.t q.t same same)
      (λ s.
      let e : q.t ≡ p.t = sym b ∙ sym r.0 in
      ahead_asym (triangles_of rows es p.t) (distinct_of p.t p.f_of.listed) f g r.1
      (subst (λ (x : Four). Ahead (triangles_of rows es x) g f) e s.1))
      q.order)
      p.order

  all_ordered : Ordered (Before rows es) (closed_triangles rows)
  unfolding closed_triangles
  all_ordered =
      joined_ordered (Before rows es) (triangles_of rows es) ts
      (λ t m.
      ordered_weaken (Ahead (triangles_of rows es t)) (Before rows es) (triangles_of rows es t)
      (λ f g i j h. record { t = t; u = t; f_of = record { listed = m; cut = i }; g_of = record { listed = m; cut = j }; order = inr (refl, h) })
      (ahead_ordered (triangles_of rows es t)))
      (ordered_weaken Dictionary4 (λ t u. (f g : Three ℕ) → f ∈ triangles_of rows es t → g ∈ triangles_of rows es u → Before rows es f g) ts
      (λ t u m n d f g i j. record { t = t; u = u; f_of = record { listed = m; cut = i }; g_of = record { listed = n; cut = j }; order = inl d })
      (tetrahedra_are rows up).ordered)

  triangle_in : (t : Four) (f : Three ℕ) → Of rows es t f → f ∈ closed_triangles rows
  unfolding closed_triangles
  triangle_in t f h = in_joined (triangles_of rows es) ts h.listed h.cut

  in_triangle : (f : Three ℕ) → f ∈ closed_triangles rows → (t : Four) × Of rows es t f
  unfolding closed_triangles
  in_triangle f m = let j = joined_in (triangles_of rows es) ts m in (j.0, record { listed = j.1; cut = j.2 })

  -- the triangle list is as it is to be
  pub triangles_are : IsClosedTriangleList rows (closed_edges rows) (closed_triangles rows)
  triangles_are =
      record {
        every = triangle_in;
        only = in_triangle;
        once =
            ordered_weaken (Before rows es) (λ f g. f ≡ g → ⊥) (closed_triangles rows)
            (λ f g i j b e. let same : Before rows es f f = rw (← e) at b in before_asym f f same same) all_ordered;
        ordered = all_ordered;
      }

  -- no other list is
  pub triangles_only : (l : List (Three ℕ)) → IsClosedTriangleList rows (closed_edges rows) l → l ≡ closed_triangles rows
  triangles_only l h =
      one_order (Before rows es) before_asym l (closed_triangles rows) h.ordered all_ordered
      (λ f m. let c = h.only f m in triangle_in c.0 f c.1) (λ f m. let c = in_triangle f m in h.every c.0 f c.1)

  -- every triangle names three different vertices
  pub triangles_different : (f : Three ℕ) → f ∈ closed_triangles rows → Different f
  triangles_different f m =
      let j = in_triangle f m in
      different_cut (vertex_of es j.0) (within j.0) (apart_in j.0 j.1.listed) f j.1.cut

-- ---- three numbers, ascending

pub record Sorted (f : Three ℕ) : Type 0 where
  pub a_b : f.a ≤ f.b
  pub b_c : f.b ≤ f.c

pub rising_sorted : (x y z : ℕ) → Sorted (rising x y z)
unfolding rising
rising_sorted x y z = go (leb x y) (leb y z) (leb x z) refl refl refl
  where
    go :
        (p q r : Bool)
        → leb x y ≡ p
        → leb y z ≡ q
        → leb x z ≡ r
        → Sorted (cond p (cond q (three x y z) (cond r (three x z y) (three z x y))) (cond r (three y x z) (cond q (three y z x) (three z y x))))
    go true true r e f g = record { a_b = leb-true x y e; b_c = leb-true y z f }
    go true false true e f g = let h = leb-false y z f in record { a_b = leb-true x z g; b_c = omega arith }
    go true false false e f g = let h = leb-false x z g in record { a_b = omega arith; b_c = leb-true x y e }
    go false q true e f g = let h = leb-false x y e in record { a_b = omega arith; b_c = leb-true x z g }
    go false true false e f g = let h = leb-false x z g in record { a_b = leb-true y z f; b_c = omega arith }
    go false false false e f g =
        let h = leb-false y z f in let i = leb-false x y e in record { a_b = omega arith; b_c = omega arith }
