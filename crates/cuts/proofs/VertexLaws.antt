-- The number that a search from near finds is the place of the edge in the list, and that of no edge is the list's length.
-- Assumes nothing.
use Rattle.std.specs.Prelude.{Some, None, Option}
use Prim.Native.Nat.{ℕ, suc, ◌<◌, ◌≤◌, min, max}
use native.Mathlib.Omega.{arith}
use mathlib.Core.Path.{◌≡◌, refl, sym, ap, ◌∙◌, fun_ext}
use mathlib.Core.Logic.{◌⊎◌, inl, inr, ⊎_elim}
use mathlib.Core.Bool.{Bool, cond}
use mathlib.Core.List.{List, [], ◌∷◌}
use lib.Dec.{leb, eqb}
use lib.ListN.{length, take, length-take}
use borrow.Author.Tests.{eqb-true, leb-true, le-leb}
use Rattle.lists.specs.Lists.{Ordered}
use Rattle.lists.proofs.Bools.{cases, and_first, and_second}
use Rattle.edges.specs.Edges.{Edge}
use Rattle.edges.specs.EdgeList.{pair_of}
use Rattle.groups.specs.Groups.{edge_at}
use Rattle.groups.specs.CellEdges.{paired, edges_in}
use Rattle.groups.specs.Near.{pair_number, number_between}
use Rattle.groups.proofs.NumberLaws.{firsts_taken, number_sound, number_complete, near_number}
use Rattle.tetrahedra.specs.ClosedTriangles.{same_edge, number_in}
use Rattle.tetrahedra.proofs.Numbers.{same_edge_lem, edge_same, number_is}
use Rattle.cuts.specs.declared.Cut.{Cut}
use Rattle.cuts.specs.Numbers.{number_or, vertex_by, Numbered}
use Rattle.cuts.specs.Patches.{patch_by, triangles_of_patch, vertex_in, triangles_by}

-- an edge that is numbered stands there; any other has the length for its number
number_at : (es : List Edge) (e : Edge) → (number_in es e ≡ length es) ⊎ ((number_in es e < length es) × (edge_at es (number_in es e) ≡ e))
unfolding number_in
number_at [] e = inl refl
number_at (f ∷ fs) e =
    cases
    (λ (b : Bool).
    (cond b 0 (suc (number_in fs e)) ≡ suc (length fs))
    ⊎ ((cond b 0 (suc (number_in fs e)) < suc (length fs)) × (edge_at (f ∷ fs) (cond b 0 (suc (number_in fs e))) ≡ e)))
    (same_edge f e) (λ t. inr (omega arith, same_edge_lem f e t))
    (λ t. ⊎_elim (λ p. inl (ap suc p)) (λ p. inr (omega (arith, p.0), p.1)) (number_at fs e))

paired_length : (first second : List ℕ) → length second ≡ length first → length (paired first second) ≡ length first
unfolding paired
paired_length [] second e = refl
paired_length (a ∷ as') [] e = absurd (omega arith)
paired_length (a ∷ as') (b ∷ bs) e = ap suc (paired_length as' bs (omega arith))

module _ (first second : List ℕ) (n : ℕ) (h : Numbered first second n) where
  abbrev es : List Edge
  es = edges_in first second n

  pub even : length second ≡ length first
  even = sym (eqb-true (length first) (length second) (and_first (eqb (length first) (length second)) _ h.pairs))

  pub fits : n ≤ length first
  fits = leb-true n (length first) (and_second (leb (length first) 1048576) _ (and_second (eqb (length first) (length second)) _ h.pairs))

  few : n ≤ 1048576
  few =
      let small = leb-true (length first) 1048576 (and_first _ (leb n (length first)) (and_second (eqb (length first) (length second)) _ h.pairs)) in
      omega (arith, fits)

  long : length es ≡ n
  long = omega (arith, length-take n (paired first second), paired_length first second even, fits)

  -- the first keys ascend
  pub in_order : Ordered ◌≤◌ (take n first)
  in_order = rw (firsts_taken first second n even) at h.rising

  module _ (a b : ℕ) where
    -- what the search by halves finds is the place
    by_halves : (f : Option ℕ) → f ≡ pair_number es a b → number_or n f ≡ vertex_in es a b
    by_halves (Some i) e =
        let s = number_sound (min a b) (max a b) es i (sym e) in
        let t = number_is es h.once (pair_of a b) i s.0 ∙ edge_same (pair_of a b) (edge_at es i) (sym s.1) in
        sym (eqb-true _ _ t)
    by_halves None e =
        ⊎_elim (λ p. rw (le-leb n 1048576 few) (sym (p ∙ long)))
        (λ p.
        let c = number_complete (min a b) (max a b) es h.rising (vertex_in es a b) p.0 p.1 in
        let clash : None ≡ Some c.0 = e ∙ c.1 in
        let z : ◌≡◌ {A = ℕ} 0 1 = cc in
        let un : ⊥ = omega arith in
        absurd un)
        (number_at es (pair_of a b))

    -- and so is what a search from near finds
    vertex_in_lem : (near : ℕ) → vertex_by first second n near a b ≡ vertex_in es a b
    unfolding vertex_by number_between
    vertex_in_lem near = rw h.pairs (by_halves _ (near_number first second n (min a b) (max a b) even in_order near))

  -- the triangles of a cut are those by the list
  pub patch_in : (near : ℕ) (cut : Cut) → triangles_of_patch (patch_by (vertex_by first second n near) cut) ≡ triangles_by es cut
  unfolding triangles_by
  patch_in near cut = ap (λ (v : ℕ → ℕ → ℕ). triangles_of_patch (patch_by v cut)) (fun_ext (λ a. fun_ext (λ b. vertex_in_lem a b near)))
