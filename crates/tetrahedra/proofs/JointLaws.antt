-- Whether there is a tetrahedron around an edge is seen in its own neighbourhood.
-- Assumes nothing.
use Prim.Native.Nat.{ℕ, ◌<◌}
use native.Mathlib.Omega.{arith}
use mathlib.Core.Path.{◌≡◌, refl, sym, ◌∙◌, subst}
use mathlib.Core.Logic.{◌⊎◌, inl, inr, ⊎_elim}
use mathlib.Core.Bool.{Bool, true, false, ◌&&◌, ◌||◌, false≢true}
use mathlib.Core.List.Memᴰ
use mathlib.Core.List.{List, [], ◌∷◌}
use lib.Dec.{eqb}
use lib.ListN.{length}
use borrow.Author.Tests.{eq-eqb, eqb-true}
use Rattle.lists.specs.Lists.{◌∈◌, Ordered, Distinct, kept}
use Rattle.lists.proofs.ListLaws.{kept_in, in_kept, kept_ordered, ordered_weaken, no_more}
use Rattle.lists.proofs.Bools.{and_first, and_second, or_cases, both_ways}
use Rattle.neighbors.specs.Neighbors.{adjacent}
use Rattle.neighbors.proofs.Adjacency.{adjacent_sym}
use Rattle.search.specs.Keys.{ascending}
use Rattle.table.specs.Table.{Row}
use Rattle.table.specs.Rows.{keys_of}
use Rattle.edges.proofs.ZeroCrossingLaws.{lattice}
use Rattle.rings.specs.Rings.{any}
use Rattle.tetrahedra.specs.Fours.{Four, four, Corner, c0, c1, c2, c3, at, Rising, holds}
use Rattle.tetrahedra.specs.Tetrahedra.{weighted_keys, tetrahedra}
use Rattle.tetrahedra.specs.ClosedEdges.{joint}
use Rattle.tetrahedra.specs.Near.{common, joint_near}
use Rattle.tetrahedra.proofs.Lattice.{Clique, clique_tetrahedron}
use Rattle.tetrahedra.proofs.Corners.{other, holds_corner, corner_holds, corners_differ, corners_adjacent, beside_two, fourth}
use Rattle.tetrahedra.proofs.TetrahedronLaws.{weighted_up, tetrahedra_are, rising_in, clique_in, corner_in}
use Rattle.tetrahedra.proofs.ClosedEdgeLaws.{any_in, in_any}

-- adjacent cells differ
apart : (k l : ℕ) → adjacent k l ≡ true → k ≡ l → ⊥
apart k l a e = false≢true (sym (lattice.apart k) ∙ rw (← e) at a)

-- ---- four pairwise adjacent cells, in a list

module _ (k l m n : ℕ) (q : Clique k l m n) where
  these : List ℕ
  these = k ∷ l ∷ m ∷ n ∷ []

  is_one : ℕ → Bool
  is_one x = eqb k x || (eqb l x || (eqb m x || eqb n x))

  one_of : (x : ℕ) → is_one x ≡ true → (k ≡ x) ⊎ ((l ≡ x) ⊎ ((m ≡ x) ⊎ (n ≡ x)))
  unfolding is_one
  one_of x e =
      ⊎_elim (λ p. inl (eqb-true k x p))
      (λ r. ⊎_elim (λ p. inr (inl (eqb-true l x p)))
      (λ s. ⊎_elim (λ p. inr (inr (inl (eqb-true m x p)))) (λ p. inr (inr (inr (eqb-true n x p)))) (or_cases (eqb m x) (eqb n x) s))
      (or_cases (eqb l x) _ r)) (or_cases (eqb k x) _ e)

  -- two different ones are adjacent
  adjacent_of : (x y : ℕ) → (k ≡ x) ⊎ ((l ≡ x) ⊎ ((m ≡ x) ⊎ (n ≡ x))) → (k ≡ y) ⊎ ((l ≡ y) ⊎ ((m ≡ y) ⊎ (n ≡ y))) → (x ≡ y → ⊥) → adjacent x y ≡ true
  adjacent_of x y (inl a) (inl b) d = absurd (d (sym a ∙ b))
  adjacent_of x y (inl a) (inr (inl b)) d = rw (← a, ← b) q.kl
  adjacent_of x y (inl a) (inr (inr (inl b))) d = rw (← a, ← b) q.km
  adjacent_of x y (inl a) (inr (inr (inr b))) d = rw (← a, ← b) q.kn
  adjacent_of x y (inr (inl a)) (inl b) d = rw (← a, ← b) (adjacent_sym l k ∙ q.kl)
  adjacent_of x y (inr (inl a)) (inr (inl b)) d = absurd (d (sym a ∙ b))
  adjacent_of x y (inr (inl a)) (inr (inr (inl b))) d = rw (← a, ← b) q.lm
  adjacent_of x y (inr (inl a)) (inr (inr (inr b))) d = rw (← a, ← b) q.ln
  adjacent_of x y (inr (inr (inl a))) (inl b) d = rw (← a, ← b) (adjacent_sym m k ∙ q.km)
  adjacent_of x y (inr (inr (inl a))) (inr (inl b)) d = rw (← a, ← b) (adjacent_sym m l ∙ q.lm)
  adjacent_of x y (inr (inr (inl a))) (inr (inr (inl b))) d = absurd (d (sym a ∙ b))
  adjacent_of x y (inr (inr (inl a))) (inr (inr (inr b))) d = rw (← a, ← b) q.mn
  adjacent_of x y (inr (inr (inr a))) (inl b) d = rw (← a, ← b) (adjacent_sym n k ∙ q.kn)
  adjacent_of x y (inr (inr (inr a))) (inr (inl b)) d = rw (← a, ← b) (adjacent_sym n l ∙ q.ln)
  adjacent_of x y (inr (inr (inr a))) (inr (inr (inl b))) d = rw (← a, ← b) (adjacent_sym n m ∙ q.mn)
  adjacent_of x y (inr (inr (inr a))) (inr (inr (inr b))) d = absurd (d (sym a ∙ b))

  these_distinct : Distinct these
  unfolding these Ordered
  these_distinct = (
    λ y i e. ⊎_elim (λ p. apart k l q.kl (e ∙ p))
        (λ j. ⊎_elim (λ p. apart k m q.km (e ∙ p)) (λ o. apart k n q.kn (e ∙ Memᴰ.eq_of_singleton o)) (Memᴰ.cases_cons j))
        (Memᴰ.cases_cons i),
    (
      λ y i e. ⊎_elim (λ p. apart l m q.lm (e ∙ p)) (λ o. apart l n q.ln (e ∙ Memᴰ.eq_of_singleton o)) (Memᴰ.cases_cons i),
      (λ y i e. apart m n q.mn (e ∙ Memᴰ.eq_of_singleton i), (λ y i. absurd (Memᴰ.not-nil i), tt)),
    ),
  )

  in_these : (x : ℕ) → (k ≡ x) ⊎ ((l ≡ x) ⊎ ((m ≡ x) ⊎ (n ≡ x))) → x ∈ these
  unfolding these
  in_these x (inl e) = Memᴰ.head (sym e)
  in_these x (inr (inl e)) = Memᴰ.tail (Memᴰ.head (sym e))
  in_these x (inr (inr (inl e))) = Memᴰ.tail (Memᴰ.tail (Memᴰ.head (sym e)))
  in_these x (inr (inr (inr e))) = Memᴰ.tail (Memᴰ.tail (Memᴰ.tail (Memᴰ.head (sym e))))

  is_these : (x : ℕ) → x ∈ these → is_one x ≡ true
  unfolding these is_one
  is_these x i =
      ⊎_elim (λ p. first (eqb k x) _ (eq-eqb k x (sym p)))
      (λ j. ⊎_elim (λ p. second (eqb k x) _ (first (eqb l x) _ (eq-eqb l x (sym p))))
      (λ o. ⊎_elim (λ p. second (eqb k x) _ (second (eqb l x) _ (first (eqb m x) _ (eq-eqb m x (sym p)))))
      (λ p. second (eqb k x) _ (second (eqb l x) _ (second (eqb m x) _ (eq-eqb n x (sym (Memᴰ.eq_of_singleton p)))))) (Memᴰ.cases_cons o))
      (Memᴰ.cases_cons j)) (Memᴰ.cases_cons i)
    where
      first : (a b : Bool) → a ≡ true → a || b ≡ true
      first true b h = refl
      first false b h = absurd (false≢true h)

      second : (a b : Bool) → b ≡ true → a || b ≡ true
      second true b h = refl
      second false b h = h

  -- those of an ascending list that has all four
  module _ (ks : List ℕ) (up : Ordered ◌<◌ ks) (every : (x : ℕ) → x ∈ these → x ∈ ks) where
    part : List ℕ
    part = kept is_one ks

    part_up : Ordered ◌<◌ part
    unfolding part
    part_up = kept_ordered ◌<◌ is_one ks up

    part_in : (x : ℕ) → x ∈ part → (x ∈ ks) × (is_one x ≡ true)
    unfolding part
    part_in x i = kept_in is_one ks i

    in_part : (x : ℕ) → x ∈ these → x ∈ part
    unfolding part
    in_part x i = in_kept is_one ks (every x i) (is_these x i)

    part_four : length part ≡ 4
    unfolding these
    part_four =
        let a = no_more ◌≡◌ these part these_distinct (λ x i. (x, in_part x i, refl)) (λ x x' y e f. e ∙ sym f) in
        let b = no_more ◌≡◌ part these (ordered_weaken ◌<◌ (λ x y. x ≡ y → ⊥) part (λ x y i j h e. omega arith) part_up)
        (λ x i. (x, in_these x (one_of x (part_in x i).1), refl)) (λ x x' y e f. e ∙ sym f) in
        omega arith

-- a list of four, ascending
record Listed4 (p : List ℕ) : Type 0 where
  t : Four
  rising : Rising t
  same : p ≡ t.a ∷ t.b ∷ t.c ∷ t.d ∷ []

as_four : (p : List ℕ) → length p ≡ 4 → Ordered ◌<◌ p → Listed4 p
unfolding Ordered
as_four [] e o = let no : ⊥ = omega arith in absurd no
as_four (a ∷ []) e o = let no : ⊥ = omega arith in absurd no
as_four (a ∷ b ∷ []) e o = let no : ⊥ = omega arith in absurd no
as_four (a ∷ b ∷ c ∷ []) e o = let no : ⊥ = omega arith in absurd no
as_four (a ∷ b ∷ c ∷ d ∷ []) e o =
    record {
      t = four a b c d;
      rising = record { a_b = o.0 b (Memᴰ.head refl); b_c = o.1.0 c (Memᴰ.head refl); c_d = o.1.1.0 d (Memᴰ.head refl) };
      same = refl;
    }
as_four (a ∷ b ∷ c ∷ d ∷ x ∷ xs) e o = let no : ⊥ = omega arith in absurd no

corner_of : (t : Four) (x : ℕ) → x ∈ (t.a ∷ t.b ∷ t.c ∷ t.d ∷ []) → (c : Corner) × (at t c ≡ x)
corner_of t x i =
    ⊎_elim (λ e. (c0, sym e))
    (λ j. ⊎_elim (λ e. (c1, sym e))
    (λ o. ⊎_elim (λ e. (c2, sym e)) (λ p. (c3, sym (Memᴰ.eq_of_singleton p))) (Memᴰ.cases_cons o)) (Memᴰ.cases_cons j)) (Memᴰ.cases_cons i)

corner_listed : (t : Four) (c : Corner) → at t c ∈ (t.a ∷ t.b ∷ t.c ∷ t.d ∷ [])
corner_listed t c0 = Memᴰ.head refl
corner_listed t c1 = Memᴰ.tail (Memᴰ.head refl)
corner_listed t c2 = Memᴰ.tail (Memᴰ.tail (Memᴰ.head refl))
corner_listed t c3 = Memᴰ.tail (Memᴰ.tail (Memᴰ.tail (Memᴰ.head refl)))

module _ (rows : List Row) (up : ascending (keys_of rows) ≡ true) where
  -- four pairwise adjacent cells with weight above 0 are a tetrahedron of the list
  pub clique_listed : (k l m n : ℕ) → Clique k l m n → k ∈ weighted_keys rows → l ∈ weighted_keys rows → m ∈ weighted_keys rows → n ∈ weighted_keys rows
      → (t : Four) × (t ∈ tetrahedra rows) × (holds k t ≡ true) × (holds l t ≡ true)
  clique_listed k l m n q ik il im in' =
      let ks : List ℕ = weighted_keys rows in
      let ku = weighted_up rows up in
      let every : (x : ℕ) → x ∈ these k l m n q → x ∈ ks =
      λ x i. ⊎_elim (λ e. Memᴰ.cast (sym e) ik)
      (λ r. ⊎_elim (λ e. Memᴰ.cast (sym e) il) (λ s. ⊎_elim (λ e. Memᴰ.cast (sym e) im) (λ e. Memᴰ.cast (sym e) in') s) r)
      (one_of k l m n q x (is_these k l m n q x i)) in
      let p : List ℕ = part k l m n q ks ku every in
      let f = as_four p (part_four k l m n q ks ku every) (part_up k l m n q ks ku every) in
      let t : Four = f.t in
      let inside : (c : Corner) → at t c ∈ p = λ c. subst (λ (x : List ℕ). at t c ∈ x) (sym f.same) (corner_listed t c) in
      let ones : (c : Corner) → (k ≡ at t c) ⊎ ((l ≡ at t c) ⊎ ((m ≡ at t c) ⊎ (n ≡ at t c))) =
      λ c. one_of k l m n q (at t c) (part_in k l m n q ks ku every (at t c) (inside c)).1 in
      let stored : (c : Corner) → at t c ∈ ks = λ c. (part_in k l m n q ks ku every (at t c) (inside c)).0 in
      let beside : (c d : Corner) → (at t c ≡ at t d → ⊥) → adjacent (at t c) (at t d) ≡ true =
      λ c d. adjacent_of k l m n q (at t c) (at t d) (ones c) (ones d) in
      let ab = f.rising.a_b in
      let bc = f.rising.b_c in
      let cd = f.rising.c_d in
      let held : (x : ℕ) → x ∈ these k l m n q → holds x t ≡ true =
      λ x i. let c = corner_of t x (subst (λ (y : List ℕ). x ∈ y) f.same (in_part k l m n q ks ku every x i)) in corner_holds t c.0 c.1 in (
        t,
        (tetrahedra_are rows up).every t
            (record {
              rising = f.rising;
              a_in = stored c0;
              b_in = stored c1;
              c_in = stored c2;
              d_in = stored c3;
              shape = clique_tetrahedron t
                  (record {
                    kl = beside c0 c1 (λ e. omega arith);
                    km = beside c0 c2 (λ e. omega arith);
                    kn = beside c0 c3 (λ e. omega arith);
                    lm = beside c1 c2 (λ e. omega arith);
                    ln = beside c1 c3 (λ e. omega arith);
                    mn = beside c2 c3 (λ e. omega arith);
                  });
            }),
        held k (in_these k l m n q k (inl refl)),
        held l (in_these k l m n q l (inr (inl refl))),
      )

  pub common_in : (k l m : ℕ) → m ∈ common rows k l → (m ∈ weighted_keys rows) × (adjacent k m ≡ true) × (adjacent l m ≡ true)
  unfolding common
  common_in k l m i =
      let p = kept_in (λ (m : ℕ). adjacent k m && adjacent l m) (weighted_keys rows) i in
      (p.0, and_first (adjacent k m) (adjacent l m) p.1, and_second (adjacent k m) (adjacent l m) p.1)

  pub in_common : (k l m : ℕ) → m ∈ weighted_keys rows → adjacent k m ≡ true → adjacent l m ≡ true → m ∈ common rows k l
  unfolding common
  in_common k l m i a b = in_kept (λ (m : ℕ). adjacent k m && adjacent l m) (weighted_keys rows) i (rw (a, b))

  module _ (k l : ℕ) (ik : k ∈ weighted_keys rows) (il : l ∈ weighted_keys rows) (kl : adjacent k l ≡ true) where
    from_near : joint_near rows k l ≡ true → joint (tetrahedra rows) k l ≡ true
    unfolding joint_near joint
    from_near e =
        let p = any_in (λ (m : ℕ). any (adjacent m) (common rows k l)) (common rows k l) e in
        let m : ℕ = p.0 in
        let r = any_in (adjacent m) (common rows k l) p.2 in
        let n : ℕ = r.0 in
        let a = common_in k l m p.1 in
        let b = common_in k l n r.1 in
        let t = clique_listed k l m n (record { kl = kl; km = a.1; kn = b.1; lm = a.2; ln = b.2; mn = r.2 }) ik il a.0 b.0 in
        in_any (λ (t : Four). holds k t && holds l t) (tetrahedra rows) t.1 (rw (t.2, t.3))

    to_near : joint (tetrahedra rows) k l ≡ true → joint_near rows k l ≡ true
    unfolding joint_near joint
    to_near e =
        let p = any_in (λ (t : Four). holds k t && holds l t) (tetrahedra rows) e in
        let t : Four = p.0 in
        let hk = and_first (holds k t) (holds l t) p.2 in
        let hl = and_second (holds k t) (holds l t) p.2 in
        let i = holds_corner k t hk in
        let j = holds_corner l t hl in
        let ru = rising_in rows up t p.1 in
        let cl = clique_in rows up t p.1 in
        let ij = corners_differ t ru i.0 j.0 (λ s. apart k l kl (sym i.1 ∙ s ∙ j.1)) in
        let o : Corner = other i.0 j.0 j.0 in
        let b = beside_two i.0 j.0 ij in
        let m : ℕ = at t o in
        let km : adjacent k m ≡ true = subst (λ (x : ℕ). adjacent x m ≡ true) i.1 (corners_adjacent t cl i.0 o b.0) in
        let lm : adjacent l m ≡ true = subst (λ (x : ℕ). adjacent x m ≡ true) j.1 (corners_adjacent t cl j.0 o b.1) in
        let f = fourth t ru cl k l m hk hl (corner_holds t o refl) (λ s. apart k l kl s) (λ s. apart k m km s) (λ s. apart l m lm s) in
        let n : ℕ = f.0 in
        let c = holds_corner n t f.1.u_held in
        let im = in_common k l m (corner_in rows up t p.1 o) km lm in
        let jn = in_common k l n (Memᴰ.cast (sym c.1) (corner_in rows up t p.1 c.0)) f.1.clique.kn f.1.clique.ln in
        in_any (λ (m : ℕ). any (adjacent m) (common rows k l)) (common rows k l) im (in_any (adjacent m) (common rows k l) jn f.1.clique.mn)

    -- of two adjacent cells with weight above 0
    pub joint_near_lem : joint (tetrahedra rows) k l ≡ joint_near rows k l
    joint_near_lem = both_ways _ _ to_near from_near

  -- and of others there is none
  pub joint_in : (k l : ℕ) → joint (tetrahedra rows) k l ≡ true → (k ∈ weighted_keys rows) × (l ∈ weighted_keys rows)
  unfolding joint
  joint_in k l e =
      let p = any_in (λ (t : Four). holds k t && holds l t) (tetrahedra rows) e in
      let t : Four = p.0 in
      let i = holds_corner k t (and_first (holds k t) (holds l t) p.2) in
      let j = holds_corner l t (and_second (holds k t) (holds l t) p.2) in
      (Memᴰ.cast (sym i.1) (corner_in rows up t p.1 i.0), Memᴰ.cast (sym j.1) (corner_in rows up t p.1 j.0))
