-- Filling the lists cell by cell: the cells that are left say what all of them say.
-- Assumes nothing.
use Prim.Native.Nat.{ℕ, ◌+◌, ◌≤◌, ◌<◌}
use native.Mathlib.Numerals.{add-one}
use native.Mathlib.Omega.{arith}
use mathlib.Core.Path.{◌≡◌, sym, ap, ◌∙◌}
use mathlib.Core.List.{List, [], ◌∷◌, ◌++◌, map, map-append}
use lib.ListN.{length, get_or, drop, length-append, length-map, drop_of_length-le}
use lib.Seq.{sets, drop-cons}
use Rattle.lists.specs.Lists.{joined}
use Rattle.handful.specs.declared.Handful.{Handful}
use Rattle.handful.specs.Handfuls.{held, numbers_of}
use Rattle.handful.proofs.PlacingLaws.{held_numbers}
use Rattle.lists.specs.Threes.{Three, threes, threes_of, column0, column1, column2}
use Rattle.triangles.specs.Building.{Source, group_at, groups_at, triangles_at}
use Rattle.triangles.specs.Steps.{filled_with}
use Rattle.lists.proofs.ThreeLaws.{length_threes}
use Rattle.lists.proofs.Parts.{Written, written_begun, written_more, written_ended}

-- the lists as they were, and as they are where the cells from `row` on are left
pub record Filling (s : Source) (cells : List ℕ) (g₀ x₀ y₀ z₀ : List ℕ) (row numbers triangles : ℕ) (g x y z : List ℕ) : Type 0 where
  pub count : length (groups_at s cells) ≡ numbers + length (groups_at s (drop row cells))
  pub total : length (triangles_at s cells) ≡ triangles + length (triangles_at s (drop row cells))
  pub groups : Written (groups_at s cells) 0 g₀ (groups_at s (drop row cells)) numbers g
  pub ones : Written (column0 (triangles_at s cells)) 0 x₀ (column0 (triangles_at s (drop row cells))) triangles x
  pub twos : Written (column1 (triangles_at s cells)) 0 y₀ (column1 (triangles_at s (drop row cells))) triangles y
  pub threes : Written (column2 (triangles_at s cells)) 0 z₀ (column2 (triangles_at s (drop row cells))) triangles z

module _ (s : Source) (cells : List ℕ) (g₀ x₀ y₀ z₀ : List ℕ) where
  pub filling_begun : Filling s cells g₀ x₀ y₀ z₀ 0 0 0 g₀ x₀ y₀ z₀
  filling_begun =
      record {
        count = omega arith;
        total = omega arith;
        groups = written_begun _ _ _;
        ones = written_begun _ _ _;
        twos = written_begun _ _ _;
        threes = written_begun _ _ _;
      }

  module _ (row a b : ℕ) (g x y z : List ℕ) (w : Filling s cells g₀ x₀ y₀ z₀ row a b g x y z) where
    -- one cell more
    module _ (h : row < length cells) (numbers : List ℕ) (e : numbers ≡ group_at s (get_or cells row 0)) where
      next : drop row cells ≡ get_or cells row 0 ∷ drop (row + 1) cells
      next = rw add-one (drop-cons cells row 0 h)

      more_groups : groups_at s (drop row cells) ≡ numbers ++ groups_at s (drop (row + 1) cells)
      unfolding joined
      more_groups = ap (groups_at s) next ∙ ap (λ (l : List ℕ). l ++ groups_at s (drop (row + 1) cells)) (sym e)

      more_triangles : triangles_at s (drop row cells) ≡ threes numbers ++ triangles_at s (drop (row + 1) cells)
      unfolding joined
      more_triangles = ap (triangles_at s) next ∙ ap (λ (l : List ℕ). threes l ++ triangles_at s (drop (row + 1) cells)) (sym e)

      column : (f : Three ℕ → ℕ) → map f (triangles_at s (drop row cells)) ≡ map f (threes numbers) ++ map f (triangles_at s (drop (row + 1) cells))
      column f = ap (map f) more_triangles ∙ map-append f (threes numbers) (triangles_at s (drop (row + 1) cells))

      put : (f : Three ℕ → ℕ) (l₀ l l' : List ℕ) (b' : ℕ) → b' ≡ b + threes_of (length numbers) → l' ≡ sets l b (map f (threes numbers)) →
          Written (map f (triangles_at s cells)) 0 l₀ (map f (triangles_at s (drop row cells))) b l
          → Written (map f (triangles_at s cells)) 0 l₀ (map f (triangles_at s (drop (row + 1) cells))) b' l'
      put f l₀ l l' b' p q v =
          let n : b' ≡ b + length (map f (threes numbers)) = omega (arith, length-map (threes numbers) f, length_threes numbers) in
          rw (n, q)
          (written_more (map f (triangles_at s cells)) 0 l₀ (map f (triangles_at s (drop row cells))) b l
          (map f (threes numbers)) (map f (triangles_at s (drop (row + 1) cells))) (column f) v)

      pub filling_turn : (a' b' : ℕ) (g' x' y' z' : List ℕ) → a' ≡ a + length numbers → b' ≡ b + threes_of (length numbers) → g' ≡ sets g a numbers →
          x' ≡ sets x b (column0 (threes numbers)) → y' ≡ sets y b (column1 (threes numbers)) → z' ≡ sets z b (column2 (threes numbers)) →
          Filling s cells g₀ x₀ y₀ z₀ (row + 1) a' b' g' x' y' z'
      filling_turn a' b' g' x' y' z' pa pb pg px py pz =
          record {
            count = omega (arith, w.count, ap length more_groups, length-append numbers (groups_at s (drop (row + 1) cells)), pa);
            total =
                omega (
                  arith,
                  w.total,
                  ap length more_triangles,
                  length-append (threes numbers) (triangles_at s (drop (row + 1) cells)),
                  length_threes numbers,
                  pb,
                );
            groups =
                rw (pa, pg)
                (written_more (groups_at s cells) 0 g₀ (groups_at s (drop row cells)) a g numbers
                (groups_at s (drop (row + 1) cells)) more_groups w.groups);
            ones = put (λ (t : Three ℕ). t.a) x₀ x x' b' pb px w.ones;
            twos = put (λ (t : Three ℕ). t.b) y₀ y y' b' pb py w.twos;
            threes = put (λ (t : Three ℕ). t.c) z₀ z z' b' pb pz w.threes;
          }

    -- none is left
    pub filling_done : length cells ≤ row →
        (record { groups = a; triangles = b } ≡ filled_with s cells)
        × ((g ≡ sets g₀ 0 (groups_at s cells))
        × ((x ≡ sets x₀ 0 (column0 (triangles_at s cells)))
        × ((y ≡ sets y₀ 0 (column1 (triangles_at s cells)))
        × (z ≡ sets z₀ 0 (column2 (triangles_at s cells))))))
    unfolding joined
    filling_done h =
        let none = drop_of_length-le cells {i = row} h in
        let no_groups : groups_at s (drop row cells) ≡ [] = ap (groups_at s) none in
        let no-triangles : triangles_at s (drop row cells) ≡ [] = ap (triangles_at s) none in
        let p : a ≡ length (groups_at s cells) = omega (arith, w.count, ap length no_groups) in
        let q : b ≡ length (triangles_at s cells) = omega (arith, w.total, ap length no-triangles) in (
          (λ i. record { groups = p i; triangles = q i }),
          (
            written_ended _ _ _ _ _ _ no_groups w.groups,
            (
              written_ended _ _ _ _ _ _ (ap column0 no-triangles) w.ones,
              (written_ended _ _ _ _ _ _ (ap column1 no-triangles) w.twos, written_ended _ _ _ _ _ _ (ap column2 no-triangles) w.threes),
            ),
          ),
        )

-- a cell's group as the program holds it
pub group_known : {g : Handful} {numbers : List ℕ} (l : List ℕ) → numbers ≡ numbers_of g → g ≡ held l → numbers ≡ l
group_known l n e = n ∙ ap numbers_of e ∙ held_numbers l
