-- Which way the triangles look, and that turning changes nothing else.
-- Assumes nothing.
use Prim.Native.Nat.{ℕ}
use mathlib.Core.Path.{◌≡◌, refl, sym, ap, ap₂, ◌∙◌, subst}
use mathlib.Core.Logic.{⊎_elim}
use mathlib.Core.Bool.{Bool, true, false, not}
use mathlib.Core.List.Memᴰ
use mathlib.Core.List.{List}
use lib.Ieee.{unlike}
use lib.ListN.{length}
use Rattle.lists.specs.Lists.{Ordered, kept}
use Rattle.lists.proofs.Bools.{cases}
use Rattle.search.specs.Keys.{ascending}
use Rattle.table.specs.Table.{Row}
use Rattle.table.specs.Rows.{keys_of}
use Rattle.edges.specs.Edges.{Edge}
use Rattle.groups.specs.Groups.{one}
use Rattle.lists.specs.Threes.{Three}
use Rattle.tetrahedra.specs.Fours.{Corner, at, Rising}
use Rattle.tetrahedra.specs.ClosedEdges.{inside_at, closed_edges}
use Rattle.tetrahedra.specs.ClosedTriangles.{vertex_of}
use Rattle.tetrahedra.proofs.Corners.{eqc, corner_eq, other, apart3}
use Rattle.tetrahedra.proofs.TetrahedronLaws.{rising_in, clique_in}
use Rattle.winding.specs.Winding.{runs_through}
use Rattle.winding.specs.Facing.{left_handed, LooksOut}
use Rattle.winding.specs.Steps.{left_of}
use Rattle.winding.proofs.Running.{runs_by, forward, face_run, back_run}
use Rattle.winding.proofs.Sides.{in_any_order}
use Rattle.winding.proofs.StandLaws.{one_of_four, vertex_small, vertex_edge}
use Rattle.winding.proofs.TurningLaws.{turned_here}
use Rattle.winding.proofs.WindingLaws.{runs_are, pairs_on}

not_eqc : (i j : Corner) → (i ≡ j → ⊥) → eqc i j ≡ false
not_eqc i j n = cases (λ (b : Bool). b ≡ false) (eqc i j) (λ e. absurd (n (corner_eq i j e))) (λ e. refl)

last_corner : (i j k l : Corner) → apart3 i j k ≡ true → (i ≡ l → ⊥) → (j ≡ l → ⊥) → (k ≡ l → ⊥) → l ≡ other i j k
last_corner i j k l d il jl kl =
    ⊎_elim (λ e. absurd (il (sym e))) (λ r. ⊎_elim (λ e. absurd (jl (sym e))) (λ s. ⊎_elim (λ e. absurd (kl (sym e))) (λ e. e) s) r)
    (one_of_four i j k d l)

module _ (rows : List Row) (up : ascending (keys_of rows) ≡ true) where
  abbrev es : List Edge
  es = closed_edges rows

  -- Every triangle looks out.
  pub looks_out : LooksOut rows
  unfolding Ordered apart3 forward
  looks_out t i j k l h =
      let ris : Rising t = rising_in rows up t h.listed in
      let a = h.all in
      let ij : i ≡ j → ⊥ = λ e. a.0 j (Memᴰ.head refl) e in
      let ik : i ≡ k → ⊥ = λ e. a.0 k (Memᴰ.tail (Memᴰ.head refl)) e in
      let il : i ≡ l → ⊥ = λ e. a.0 l (Memᴰ.tail (Memᴰ.tail (Memᴰ.head refl))) e in
      let jk : j ≡ k → ⊥ = λ e. a.1.0 k (Memᴰ.head refl) e in
      let jl : j ≡ l → ⊥ = λ e. a.1.0 l (Memᴰ.tail (Memᴰ.head refl)) e in
      let kl : k ≡ l → ⊥ = λ e. a.1.1.0 l (Memᴰ.head refl) e in
      let d : apart3 i j k ≡ true = rw (not_eqc i j ij, not_eqc i k ik, not_eqc j k jk) in
      let o = last_corner i j k l d il jl kl in
      let w : Corner → Bool = λ c. inside_at rows (at t c) in
      let hand : unlike (left_handed (at t i) (at t j) (at t k) (at t (other i j k))) (w i) ≡ true =
      subst (λ (c : Corner). unlike (left_handed (at t i) (at t j) (at t k) (at t c)) (w i) ≡ true) o h.hand in
      let f : forward (left_of t) i j k (w i) ≡ true =
      subst (λ (b : Bool). unlike b (w i) ≡ true) (in_any_order t (clique_in rows up t h.listed) i j k d) hand in
      let u = vertex_of es t i j in
      let v = vertex_of es t i k in
      let lu = vertex_small rows up t h.listed i j h.j_crossed in
      let lv = vertex_small rows up t h.listed i k h.k_crossed in
      let pu = pairs_on rows up u t ris i j (vertex_edge rows up t h.listed i j h.j_crossed) in
      let pv = pairs_on rows up v t ris i k (vertex_edge rows up t h.listed i k h.k_crossed) in
      let ruled = turned_here rows up t h.listed in (
        ap (λ (l : List (Three ℕ)). length (kept (runs_through u v) l)) ruled ∙ runs_are rows up u v lu lv t
            ∙ ap₂ (λ (b c : Corner → Corner → Bool). runs_by (left_of t) b c w) pu pv ∙ face_run (left_of t) w i j k d h.j_crossed h.k_crossed ∙ ap one f,
        ap (λ (l : List (Three ℕ)). length (kept (runs_through v u) l)) ruled ∙ runs_are rows up v u lv lu t
            ∙ ap₂ (λ (b c : Corner → Corner → Bool). runs_by (left_of t) b c w) pv pu ∙ back_run (left_of t) w i j k d h.j_crossed h.k_crossed
            ∙ ap (λ (b : Bool). one (not b)) f,
      )
