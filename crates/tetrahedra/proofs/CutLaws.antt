-- The vertices that a cut names lie between an inside and an outside corner.
-- Assumes nothing.
use Prim.Native.Nat.{ℕ, ◌+◌, ◌<◌}
use native.Mathlib.Omega.{arith}
use mathlib.Core.Path.{◌≡◌, refl, sym, ap, ◌∙◌}
use mathlib.Core.Logic.{⊎_elim}
use mathlib.Core.Bool.{Bool, true, false, not, cond, ◌||◌}
use mathlib.Core.List.Memᴰ
use mathlib.Core.List.{List, []}
use lib.Dec.{eqb}
use lib.Ieee.{unlike}
use lib.ListN.{length}
use borrow.Author.Tests.{eqb-true, not-true}
use Rattle.lists.specs.Lists.{◌∈◌, kept}
use Rattle.lists.proofs.ListLaws.{kept_in, at_in}
use Rattle.lists.proofs.Bools.{or_cases}
use Rattle.lists.specs.Threes.{Three, three}
use Rattle.tetrahedra.specs.Fours.{Corner, c0, corners}
use Rattle.tetrahedra.specs.ClosedTriangles.{nth, alone, halves, cut, cut_by}
use Rattle.tetrahedra.specs.Closing.{names}
use Rattle.tetrahedra.proofs.Counting.{kept_both}
use Rattle.tetrahedra.proofs.Local.{names_rising}

module _ (vertex : Corner → Corner → ℕ) (within : Corner → Bool) where
  -- u is the vertex between an inside and an outside corner
  pub record Between (u : ℕ) : Type 0 where
    pub i : Corner
    pub j : Corner
    pub crossed : unlike (within i) (within j) ≡ true
    pub vertex_is : vertex i j ≡ u

  abbrev ins : List Corner
  ins = kept within corners

  abbrev outs : List Corner
  outs = kept (λ (c : Corner). not (within c)) corners

  sizes : length ins + length outs ≡ 4
  sizes = kept_both within corners

  in_ins : (n : ℕ) → n < length ins → within (nth ins n) ≡ true
  in_ins n l = (kept_in within corners (at_in ins c0 n l)).1

  in_outs : (n : ℕ) → n < length outs → within (nth outs n) ≡ false
  in_outs n l = not-true (within (nth outs n)) (kept_in (λ (c : Corner). not (within c)) corners (at_in outs c0 n l)).1

  in_out : (i j : Corner) (u : ℕ) → within i ≡ true → within j ≡ false → eqb (vertex i j) u ≡ true → Between u
  in_out i j u p q e = record { i = i; j = j; crossed = rw (p, q); vertex_is = eqb-true (vertex i j) u e }

  out_in : (i j : Corner) (u : ℕ) → within i ≡ false → within j ≡ true → eqb (vertex i j) u ≡ true → Between u
  out_in i j u p q e = record { i = i; j = j; crossed = rw (p, q); vertex_is = eqb-true (vertex i j) u e }

  any3 : (a b c : Bool) (P : Type 0) → (a ≡ true → P) → (b ≡ true → P) → (c ≡ true → P) → a || (b || c) ≡ true → P
  any3 a b c P f g h e = ⊎_elim f (λ r. ⊎_elim g h (or_cases b c r)) (or_cases a (b || c) e)

  named : (u x y z : ℕ) → names u (three x y z) ≡ true → (eqb x u || (eqb y u || eqb z u)) ≡ true
  unfolding names
  named u x y z e = e

  pub cut_between : (t : Three ℕ) (u : ℕ) → t ∈ cut_by vertex within → names u t ≡ true → Between u
  unfolding cut_by cut
  cut_between t u m e = go (eqb (length ins) 1) (eqb (length ins) 2) (eqb (length ins) 3) refl refl refl m
    where
      by_one : length ins ≡ 1 → t ∈ alone vertex (nth ins 0) outs → Between u
      by_one s i =
          let z = sizes in
          let p = nth ins 0 in
          let same = Memᴰ.eq_of_singleton i in
          let h : (eqb (vertex p (nth outs 0)) u || (eqb (vertex p (nth outs 1)) u || eqb (vertex p (nth outs 2)) u)) ≡ true =
          sym (names_rising u (vertex p (nth outs 0)) (vertex p (nth outs 1)) (vertex p (nth outs 2))) ∙ sym (ap (names u) same) ∙ e in
          let w = in_ins 0 (omega arith) in
          any3 _ _ _ (Between u) (λ d. in_out p (nth outs 0) u w (in_outs 0 (omega arith)) d)
          (λ d. in_out p (nth outs 1) u w (in_outs 1 (omega arith)) d)
          (λ d. in_out p (nth outs 2) u w (in_outs 2 (omega arith)) d) h

      by_three : length ins ≡ 3 → t ∈ alone vertex (nth outs 0) ins → Between u
      by_three s i =
          let z = sizes in
          let p = nth outs 0 in
          let same = Memᴰ.eq_of_singleton i in
          let h : (eqb (vertex p (nth ins 0)) u || (eqb (vertex p (nth ins 1)) u || eqb (vertex p (nth ins 2)) u)) ≡ true =
          sym (names_rising u (vertex p (nth ins 0)) (vertex p (nth ins 1)) (vertex p (nth ins 2))) ∙ sym (ap (names u) same) ∙ e in
          let w = in_outs 0 (omega arith) in
          any3 _ _ _ (Between u) (λ d. out_in p (nth ins 0) u w (in_ins 0 (omega arith)) d)
          (λ d. out_in p (nth ins 1) u w (in_ins 1 (omega arith)) d)
          (λ d. out_in p (nth ins 2) u w (in_ins 2 (omega arith)) d) h

      by_two : length ins ≡ 2 → t ∈ halves vertex (nth ins 0) (nth ins 1) (nth outs 0) (nth outs 1) → Between u
      by_two s i =
          let z = sizes in
          let p = nth ins 0 in
          let q = nth ins 1 in
          let r = nth outs 0 in
          let o = nth outs 1 in
          let wp = in_ins 0 (omega arith) in
          let wq = in_ins 1 (omega arith) in
          let wr = in_outs 0 (omega arith) in
          let wo = in_outs 1 (omega arith) in
          ⊎_elim
          (λ same.
          any3 _ _ _ (Between u) (λ d. in_out p r u wp wr d) (λ d. in_out p o u wp wo d) (λ d. in_out q o u wq wo d)
          (named u (vertex p r) (vertex p o) (vertex q o) (sym (ap (names u) same) ∙ e)))
          (λ n.
          any3 _ _ _ (Between u) (λ d. in_out p r u wp wr d) (λ d. in_out q o u wq wo d) (λ d. in_out q r u wq wr d)
          (named u (vertex p r) (vertex q o) (vertex q r) (sym (ap (names u) (Memᴰ.eq_of_singleton n)) ∙ e)))
          (Memᴰ.cases_cons i)

      go : (a b c : Bool) → eqb (length ins) 1 ≡ a → eqb (length ins) 2 ≡ b → eqb (length ins) 3 ≡ c
          → t ∈ cond a (alone vertex (nth ins 0) outs)
          (cond b (halves vertex (nth ins 0) (nth ins 1) (nth outs 0) (nth outs 1)) (cond c (alone vertex (nth outs 0) ins) [])) → Between u
      go true b c x y z i = by_one (eqb-true (length ins) 1 x) i
      go false true c x y z i = by_two (eqb-true (length ins) 2 y) i
      go false false true x y z i = by_three (eqb-true (length ins) 3 z) i
      go false false false x y z i = absurd (Memᴰ.not-nil i)
