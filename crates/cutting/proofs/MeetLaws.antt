-- Which of some cells are adjacent, told one by one: for each cell in its own part of 14 places.
-- Assumes nothing.
use Prim.Native.Nat.{ℕ, ◌+◌, ◌*◌, ◌≤◌, ◌<◌}
use native.Mathlib.Nat.{not-suc-le-zero}
use native.Mathlib.Omega.{arith}
use mathlib.Core.Path.{◌≡◌, refl, ◌∙◌}
use mathlib.Core.Bool.{Bool, false}
use mathlib.Core.List.{List}
use lib.Dec.{eqb}
use lib.ListN.{length, get_or, set}
use lib.Seq.{get_or-set_same, get_or-set_other}
use borrow.Author.Tests.{eqb-true, eqb-false}
use Rattle.lists.proofs.Bools.{cases}
use Rattle.neighbors.specs.Neighbors.{adjacent}
use Rattle.cutting.specs.Steps.{MeetsUpTo}

-- of the cell at i those before l are told too
abbrev pub Telling : List ℕ → ℕ → ℕ → List Bool → Type 0
Telling hs i l ms = MeetsUpTo hs i ms × ((k : ℕ) → i < k → k < l → get_or ms (14 * i + k) false ≡ adjacent (get_or hs i 0) (get_or hs k 0))

pub none_told : (hs : List ℕ) (ms : List Bool) → MeetsUpTo hs 0 ms
none_told hs ms i l a b c = absurd (not-suc-le-zero a)

module _ (hs : List ℕ) (few : length hs ≤ 14) (i : ℕ) (ms : List Bool) where
  pub none_telling : MeetsUpTo hs i ms → Telling hs i (i + 1) ms
  none_telling t = (t, λ k a b. absurd (omega arith))

  pub one_telling : (l : ℕ)
      → Telling hs i l ms
      → l < length hs
      → 14 * i + l < length ms
      → (b : Bool)
      → b ≡ adjacent (get_or hs i 0) (get_or hs l 0)
      → Telling hs i (l + 1) (set ms (14 * i + l) b)
  one_telling l t h room b e = (
    λ k m p q r. get_or-set_other ms (14 * i + l) (14 * k + m) b false (λ z. omega (arith, z, few)) ∙ t.0 k m p q r,
    λ k p q.
        cases (λ (s : Bool). eqb k l ≡ s → get_or (set ms (14 * i + l) b) (14 * i + k) false ≡ adjacent (get_or hs i 0) (get_or hs k 0)) (eqb k l)
        (λ s u. rw (eqb-true k l u) (get_or-set_same ms (14 * i + l) b false room ∙ e))
        (λ s u.
        let apart = eqb-false k l u in
        get_or-set_other ms (14 * i + l) (14 * i + k) b false (λ z. apart (omega (arith, z))) ∙ t.1 k p (omega (arith, apart)))
        refl,
  )

  pub all_telling : (l : ℕ) → Telling hs i l ms → length hs ≤ l → MeetsUpTo hs (i + 1) ms
  all_telling l t h k m p q r =
      cases (λ (s : Bool). eqb k i ≡ s → get_or ms (14 * k + m) false ≡ adjacent (get_or hs k 0) (get_or hs m 0)) (eqb k i)
      (λ s u. rw (eqb-true k i u) (t.1 m (omega (arith, q, eqb-true k i u)) (omega (arith, r))))
      (λ s u. let apart = eqb-false k i u in t.0 k m (omega (arith, apart)) q r)
      refl
