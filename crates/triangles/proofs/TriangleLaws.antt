-- Demand 3 of the triangle list: it holds every three edges that meet in one cell, each three once, in document 01's order, and no other; and
-- it is the only list that does.
-- Assumes nothing.
use Prim.Native.Nat.{ℕ, ◌+◌, ◌<◌}
use native.Mathlib.Omega.{arith}
use mathlib.Core.Path.{◌≡◌, refl, sym, ap, ap₂, ◌∙◌}
use mathlib.Core.Logic.{◌⊎◌, inl, inr, ⊎_elim}
use mathlib.Core.List.{List, [], ◌∷◌}
use lib.ListN.{length, length-append}
use Rattle.lists.specs.Lists.{◌∈◌, Ordered, Distinct, joined}
use Rattle.lists.proofs.ListLaws.{at_in, ordered_at, ordered_weaken, joined_in, in_joined, joined_ordered, one_order}
use Rattle.lists.specs.Threes.{Three, threes_of, Dictionary}
use Rattle.lists.proofs.ThreeLaws.{length_threes, threes_in_lem, in_threes, threes_ordered, dictionary_asym}
use Rattle.edges.specs.Edges.{Edge, edge}
use Rattle.groups.specs.Groups.{edge_at, group_of}
use Rattle.triangles.specs.Triangles.{triangles_at, triangles, triangles_of}
use Rattle.triangles.specs.TriangleList.{Meet, Before, IsTriangleList}
use Rattle.handful.proofs.PlacingLaws.{compared}
use Rattle.groups.proofs.GroupLaws.{numbers_length, group_in_lem, in_group, group_ordered}
use Rattle.groups.proofs.PartLaws.{Covers, cell_in}

-- how long the triangle list is
pub triangles_length : (es : List Edge) (cells : List ℕ) → length (triangles es cells) ≡ triangles_of es cells
unfolding joined triangles_of
triangles_length es [] = refl
triangles_length es (cell ∷ cells) =
    length-append (triangles_at es cell) (triangles es cells)
    ∙ ap₂ ◌+◌ (length_threes (group_of es cell) ∙ ap threes_of (numbers_length cell 0 es)) (triangles_length es cells)

-- the triangles of a cell are the threes of edges that meet in it
module _ (es : List Edge) (cell : ℕ) where
  at_meet : (t : Three ℕ) → t ∈ triangles_at es cell → Meet es cell t
  at_meet t m =
      let r = threes_in_lem (group_of es cell) (group_ordered es cell) t m in
      record {
        a_b = r.3;
        b_c = r.4;
        a_ends = group_in_lem es cell t.a r.0;
        b_ends = group_in_lem es cell t.b r.1;
        c_ends = group_in_lem es cell t.c r.2;
      }

  meet_at : (t : Three ℕ) → Meet es cell t → t ∈ triangles_at es cell
  meet_at t h =
      in_threes (group_of es cell) (group_ordered es cell) t (in_group es cell t.a h.a_ends) (in_group es cell t.b h.b_ends)
      (in_group es cell t.c h.c_ends) h.a_b h.b_c

-- an edge with both of two cells as ends is the edge between them
between : (e : Edge) (c d : ℕ) → e.first < e.second → c < d → (e.first ≡ c) ⊎ (e.second ≡ c) → (e.first ≡ d) ⊎ (e.second ≡ d) → e ≡ edge c d
between e c d l h (inl p) (inl q) = let un : ⊥ = omega arith in absurd un
between e c d l h (inl p) (inr q) = λ i. record { first = p i; second = q i }
between e c d l h (inr p) (inl q) = let un : ⊥ = omega arith in absurd un
between e c d l h (inr p) (inr q) = let un : ⊥ = omega arith in absurd un

module _ (es : List Edge) (cells : List ℕ) (h : Covers es cells) (once : Distinct es) where
  -- two edges do not meet in two cells
  apart : (t : Three ℕ) (c d : ℕ) → Meet es c t → Meet es d t → c < d → ⊥
  apart t c d m n l =
      let up : (i : ℕ) → i < length es → (edge_at es i).first < (edge_at es i).second = λ i k. h.upward (edge_at es i) (at_in es (edge 0 0) i k) in
      let one = between (edge_at es t.a) c d (up t.a m.a_ends.numbered) l m.a_ends.ends n.a_ends.ends in
      let two = between (edge_at es t.b) c d (up t.b m.b_ends.numbered) l m.b_ends.ends n.b_ends.ends in
      ordered_at (λ x y. x ≡ y → ⊥) es (edge 0 0) once t.a t.b m.a_b m.b_ends.numbered (one ∙ sym two)

  -- so three edges meet in one cell at most
  pub one_cell : (t : Three ℕ) (c d : ℕ) → Meet es c t → Meet es d t → c ≡ d
  one_cell t c d m n =
      ⊎_elim (λ l. absurd (apart t c d m n l)) (λ r. ⊎_elim (λ l. absurd (apart t d c n m l)) (λ e. e) r) (compared c d)

  before_asym : (t u : Three ℕ) → Before es t u → Before es u t → ⊥
  before_asym t u p q =
      let x = one_cell t p.cell q.other p.meet q.meet_other in
      let y = one_cell u p.other q.cell p.meet_other q.meet in
      ⊎_elim (λ l. ⊎_elim (λ k. omega arith) (λ k. omega (arith, k.0)) q.order)
      (λ l. ⊎_elim (λ k. omega (arith, l.0)) (λ k. dictionary_asym t u l.1 k.1) q.order)
      p.order

  all_ordered : Ordered (Before es) (triangles es cells)
  all_ordered =
      joined_ordered (Before es) (triangles_at es) cells
      (λ c m.
      ordered_weaken Dictionary (Before es) (triangles_at es c)
      (λ t u i j d. record { cell = c; other = c; meet = at_meet es c t i; meet_other = at_meet es c u j; order = inr (refl, d) })
      (threes_ordered (group_of es c) (group_ordered es c)))
      (ordered_weaken ◌<◌ (λ c d. (t u : Three ℕ) → t ∈ triangles_at es c → u ∈ triangles_at es d → Before es t u) cells
      (λ c d p q l t u i j. record { cell = c; other = d; meet = at_meet es c t i; meet_other = at_meet es d u j; order = inl l }) h.ascending)

  -- demand 3 of the triangle list
  pub triangles_are : IsTriangleList es (triangles es cells)
  triangles_are =
      record {
        every = λ cell t m. in_joined (triangles_at es) cells (cell_in es cells h t.a cell m.a_ends) (meet_at es cell t m);
        only = λ t m. let j = joined_in (triangles_at es) cells m in (j.0, at_meet es j.0 t j.2);
        once =
            ordered_weaken (Before es) (λ t u. t ≡ u → ⊥) (triangles es cells)
            (λ t u i j b e. let same : Before es t t = rw (← e) at b in before_asym t t same same) all_ordered;
        ordered = all_ordered;
      }

  -- no other list has it
  pub triangles_only : (l : List (Three ℕ)) → IsTriangleList es l → l ≡ triangles es cells
  triangles_only l g =
      one_order (Before es) before_asym l (triangles es cells) g.ordered all_ordered
      (λ t m. let c = g.only t m in triangles_are.every c.0 t c.1)
      (λ t m. let c = triangles_are.only t m in g.every c.0 t c.1)
