-- The triangles of the closed mesh are those of its rows, each tetrahedron at its smallest key; and a row that is the smaller end of no edge has none,
-- since its tetrahedra lie on one side.
-- Assumes nothing.
use Prim.Native.Nat.{ℕ, ◌<◌}
use native.Mathlib.Omega.{arith}
use mathlib.Core.Path.{◌≡◌, refl, sym, ap, ◌∙◌}
use mathlib.Core.Bool.{Bool, true, false, cond, false≢true}
use mathlib.Core.List.Memᴰ
use mathlib.Core.List.{List, [], ◌∷◌, ◌++◌, map, map-append}
use lib.Ieee.{unlike}
use Rattle.lists.specs.Lists.{◌∈◌, kept, joined}
use Rattle.lists.specs.Threes.{Three, three, with_third, with_two, threes}
use Rattle.lists.proofs.Bools.{cases}
use Rattle.search.specs.Keys.{ascending}
use Rattle.table.specs.Table.{Row}
use Rattle.table.specs.Rows.{keys_of}
use Rattle.edges.specs.Edges.{Edge}
use Rattle.edges.proofs.EdgeLaws.{pair_up}
use Rattle.rings.specs.Sides.{weighted}
use Rattle.tetrahedra.specs.Fours.{Four, before, Corner, c0, c1, c2, c3, at}
use Rattle.tetrahedra.specs.Tetrahedra.{weighted_keys, tetrahedra}
use Rattle.tetrahedra.specs.ClosedEdges.{inside_at, closed_edges}
use Rattle.tetrahedra.specs.ClosedTriangles.{vertex_of, cut, cut_by, triangles_of, closed_triangles}
use Rattle.tetrahedra.specs.Near.{higher, close, starting_at, near_tetrahedra}
use Rattle.tetrahedra.proofs.Local.{signs, signs_are}
use Rattle.tetrahedra.proofs.TetrahedronLaws.{tetrahedra_are, rising_in}
use Rattle.tetrahedra.proofs.ClosedEdgeLaws.{crossed_in}
use Rattle.tetrahedra.proofs.NearLaws.{starting_in, near_same}
use Rattle.cuts.specs.declared.Cut.TheVariants.{Nothing}
use Rattle.cuts.specs.Cuts.{cut_of}
use Rattle.cuts.specs.Patches.{patch_by, triangles_of_patch, triangles_by}
use Rattle.cutting.specs.Corners.{Sided, cut_with, cuts_of, sided_in, cuts_at, cut_row}
use Rattle.cutting.proofs.GoingLaws.{joined_append}

-- ---- lists joined

module _ {A B : Type 0} where
  joined_same : (f g : A → List B) → ((x : A) → f x ≡ g x) → (l : List A) → joined f l ≡ joined g l
  unfolding joined
  joined_same f g e [] = refl
  joined_same f g e (x ∷ l) = rw (e x, joined_same f g e l)

  joined_none : (f : A → List B) (l : List A) → ((x : A) → x ∈ l → f x ≡ []) → joined f l ≡ []
  unfolding joined
  joined_none f [] e = refl
  joined_none f (x ∷ l) e = rw (e x (Memᴰ.head refl), joined_none f l (λ y m. e y (Memᴰ.tail m)))

  joined_kept : (f : A → List B) (p : A → Bool) (l : List A) → joined f (kept p l) ≡ joined (λ (x : A). cond (p x) (f x) []) l
  unfolding joined kept
  joined_kept f p [] = refl
  joined_kept f p (x ∷ l) =
      cases (λ (b : Bool). joined f (cond b (x ∷ kept p l) (kept p l)) ≡ cond b (f x) [] ++ joined (λ (x : A). cond (p x) (f x) []) l) (p x)
      (λ e. ap (λ (r : List B). f x ++ r) (joined_kept f p l)) (λ e. joined_kept f p l)

module _ {A B C : Type 0} where
  joined_map : (f : B → List C) (g : A → B) (l : List A) → joined f (map g l) ≡ joined (λ (x : A). f (g x)) l
  unfolding joined
  joined_map f g [] = refl
  joined_map f g (x ∷ l) = ap (λ (r : List C). f (g x) ++ r) (joined_map f g l)

  joined_joined : (f : B → List C) (g : A → List B) (l : List A) → joined f (joined g l) ≡ joined (λ (x : A). joined f (g x)) l
  unfolding joined
  joined_joined f g [] = refl
  joined_joined f g (x ∷ l) = joined_append f (g x) (joined g l) ∙ ap (λ (r : List C). joined f (g x) ++ r) (joined_joined f g l)

-- ---- every three of a list, each changed

module _ {A B : Type 0} (f : A → B) where
  abbrev each : Three A → Three B
  each t = three (f t.a) (f t.b) (f t.c)

  third_each : (x y : A) (l : List A) → with_third (f x) (f y) (map f l) ≡ map each (with_third x y l)
  unfolding with_third
  third_each x y [] = refl
  third_each x y (z ∷ l) = ap (λ (r : List (Three B)). three (f x) (f y) (f z) ∷ r) (third_each x y l)

  two_each : (x : A) (l : List A) → with_two (f x) (map f l) ≡ map each (with_two x l)
  unfolding with_two
  two_each x [] = refl
  two_each x (y ∷ l) = rw (third_each x y l, two_each x l) (sym (map-append each (with_third x y l) (with_two x l)))

  threes_each : (l : List A) → threes (map f l) ≡ map each (threes l)
  unfolding threes
  threes_each [] = refl
  threes_each (x ∷ l) = rw (two_each x l, threes_each l) (sym (map-append each (with_two x l) (threes l)))

-- ---- a tetrahedron's triangles

-- by its four keys and their sides
module _ (es : List Edge) (t : Four) where
  by_signs : (a b c d : Bool) → cut_by (vertex_of es t) (signs a b c d) ≡ triangles_by es (cut_of a b c d t.a t.b t.c t.d)
  unfolding cut_by cut kept vertex_of triangles_by patch_by triangles_of_patch
  by_signs true true true true = refl
  by_signs true true true false = refl
  by_signs true true false true = refl
  by_signs true true false false = refl
  by_signs true false true true = refl
  by_signs true false true false = refl
  by_signs true false false true = refl
  by_signs true false false false = refl
  by_signs false true true true = refl
  by_signs false true true false = refl
  by_signs false true false true = refl
  by_signs false true false false = refl
  by_signs false false true true = refl
  by_signs false false true false = refl
  by_signs false false false true = refl
  by_signs false false false false = refl

  pub cut_same : (rows : List Row)
      → triangles_of rows es t
      ≡ triangles_by es (cut_of (inside_at rows t.a) (inside_at rows t.b) (inside_at rows t.c) (inside_at rows t.d) t.a t.b t.c t.d)
  cut_same rows =
      ap (cut_by (vertex_of es t)) (sym (signs_are (λ (c : Corner). inside_at rows (at t c))))
      ∙ by_signs (inside_at rows t.a) (inside_at rows t.b) (inside_at rows t.c) (inside_at rows t.d)

-- ---- the tetrahedra of a cell

module _ (rows : List Row) (es : List Edge) (k : ℕ) where
  one_three : (th : Three ℕ) → cond (close th) (triangles_of rows es (before k th)) [] ≡ triangles_by es (cut_with (sided_in rows k) (each (sided_in rows) th))
  unfolding cut_with triangles_by patch_by triangles_of_patch
  one_three th =
      cases
      (λ (b : Bool).
      cond b (triangles_of rows es (before k th)) []
      ≡ triangles_by es
      (cond b (cut_of (inside_at rows k) (inside_at rows th.a) (inside_at rows th.b) (inside_at rows th.c) k th.a th.b th.c) Nothing))
      (close th) (λ e. cut_same es (before k th) rows) (λ e. refl)

  pub starting_cut : joined (triangles_of rows es) (starting_at rows k) ≡ cuts_at rows es k
  unfolding starting_at cuts_at
  starting_cut =
      joined_map (triangles_of rows es) (before k) (kept close (threes (higher rows k)))
      ∙ joined_kept (λ (th : Three ℕ). triangles_of rows es (before k th)) close (threes (higher rows k))
      ∙ joined_same _ _ one_three (threes (higher rows k))
      ∙ sym (joined_map (λ (t : Three Sided). triangles_by es (cut_with (sided_in rows k) t)) (each (sided_in rows)) (threes (higher rows k)))
      ∙ ap (cuts_of es (sided_in rows k)) (sym (threes_each (sided_in rows) (higher rows k)))

module _ (rows : List Row) (up : ascending (keys_of rows) ≡ true) where
  -- the triangles, row by row
  pub row_by_row : closed_triangles rows ≡ joined (cut_row rows (closed_edges rows)) rows
  unfolding closed_triangles near_tetrahedra
  row_by_row =
      ap (joined (triangles_of rows (closed_edges rows))) (sym (near_same rows up))
      ∙ joined_joined (triangles_of rows (closed_edges rows)) (starting_at rows) (weighted_keys rows)
      ∙ joined_same _ _ (starting_cut rows (closed_edges rows)) (weighted_keys rows)
      ∙ joined_map (cuts_at rows (closed_edges rows)) (λ (r : Row). r.key) (kept weighted rows)
      ∙ joined_kept (λ (r : Row). cuts_at rows (closed_edges rows) r.key) weighted rows

  -- ---- a cell that is the smaller end of no edge

  alike : (a b : Bool) → unlike a b ≡ false → b ≡ a
  alike true true e = refl
  alike true false e = absurd (false≢true (sym e))
  alike false true e = absurd (false≢true (sym e))
  alike false false e = refl

  module _ (k : ℕ) (m : k ∈ weighted_keys rows) (none : (e : Edge) → e ∈ closed_edges rows → e.first ≡ k → ⊥) where
    on_one_side : (t : Four) → t ∈ starting_at rows k → triangles_of rows (closed_edges rows) t ≡ []
    unfolding triangles_by patch_by triangles_of_patch
    on_one_side t i =
        let s = starting_in rows up k m t i in
        let listed : t ∈ tetrahedra rows = (tetrahedra_are rows up).every t s.0 in
        let r = rising_in rows up t listed in
        let same : (c : Corner) → t.a < at t c → inside_at rows (at t c) ≡ inside_at rows t.a =
        λ c l.
        alike (inside_at rows t.a) (inside_at rows (at t c))
        (cases (λ (b : Bool). unlike (inside_at rows t.a) (inside_at rows (at t c)) ≡ b → b ≡ false) (unlike (inside_at rows t.a) (inside_at rows (at t c)))
        (λ q e. absurd (none _ (crossed_in rows up t c0 c (record { listed = listed; crossed = e })) (ap (λ (e : Edge). e.first) (pair_up l) ∙ s.1)))
        (λ q e. refl) refl) in
        cut_same (closed_edges rows) t rows
        ∙ rw (same c1 r.a_b, same c2 (omega (arith, r.a_b, r.b_c)), same c3 (omega (arith, r.a_b, r.b_c, r.c_d))) (one_side (inside_at rows t.a))
      where
        one_side : (b : Bool) → triangles_by (closed_edges rows) (cut_of b b b b t.a t.b t.c t.d) ≡ []
        one_side true = refl
        one_side false = refl

    -- it has no triangles
    pub no_edge_no_cut : cuts_at rows (closed_edges rows) k ≡ []
    no_edge_no_cut = sym (starting_cut rows (closed_edges rows) k) ∙ joined_none (triangles_of rows (closed_edges rows)) (starting_at rows k) on_one_side
