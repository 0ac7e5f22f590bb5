-- Writing a list of numbers into a lent list from a place on, in parts: what is left to write, from where it goes on, says what the whole says.
-- Assumes nothing.
use Prim.Native.Nat.{ℕ, suc, ◌+◌, ◌≤◌, ◌<◌}
use native.Mathlib.Numerals.{add-one}
use native.Mathlib.Omega.{arith}
use mathlib.Core.Path.{◌≡◌, refl, sym, ap, subst, ◌∙◌}
use mathlib.Core.List.{List, [], ◌∷◌, ◌++◌}
use lib.ListN.{length, get_or, drop, set, length-set}
use lib.Seq.{sets, length-sets, set_out, drop-cons}
use Rattle.lists.proofs.Writing.{sets_append}

-- nothing is written past the end
past_end : (l xs : List ℕ) (at : ℕ) → length l ≤ at → sets l at xs ≡ l
past_end l [] at h = refl
past_end l (x ∷ xs) at h = rw (set_out l at x h) (past_end l xs (suc at) (omega arith))

-- `whole`, written into l from `at` on, is l' with `rest` written from `end` on
pub record Written (whole : List ℕ) (at : ℕ) (l rest : List ℕ) (end : ℕ) (l' : List ℕ) : Type 0 where
  pub same : sets l at whole ≡ sets l' end rest
  pub long : length l' ≡ length l

module _ (whole : List ℕ) (at : ℕ) (l : List ℕ) where
  pub written_begun : Written whole at l whole at l
  written_begun = record { same = refl; long = refl }

  module _ (rest : List ℕ) (end : ℕ) (l' : List ℕ) where
    -- one more
    pub written_one : (v : ℕ) → Written whole at l (v ∷ rest) end l' → Written whole at l rest (end + 1) (set l' end v)
    written_one v w = record { same = rw add-one w.same; long = length-set l' end v ∙ w.long }

    -- a part more
    pub written_more : (xs rest' : List ℕ) → rest ≡ xs ++ rest' → Written whole at l rest end l' → Written whole at l rest' (end + length xs) (sets l' end xs)
    written_more xs rest' e w =
        record { same = w.same ∙ ap (sets l' end) e ∙ sets_append l' end xs rest'; long = length-sets l' end xs ∙ w.long }

    -- what was left, written otherwise, and then written in part
    pub written_on : (mid : List ℕ)
        → rest ≡ mid
        → Written whole at l rest end l'
        → (rest' : List ℕ) (end' : ℕ) (l'' : List ℕ)
        → Written mid end l' rest' end' l''
        → Written whole at l rest' end' l''
    written_on mid e w rest' end' l'' v = record { same = w.same ∙ ap (sets l' end) e ∙ v.same; long = v.long ∙ w.long }

    -- nothing is left, or there is no place for it
    pub written_ended : rest ≡ [] → Written whole at l rest end l' → l' ≡ sets l at whole
    written_ended e w = sym (w.same ∙ rw e refl)

    pub written_full : length l' ≤ end → Written whole at l rest end l' → l' ≡ sets l at whole
    written_full h w = sym (w.same ∙ past_end l' rest end h)

-- one number more of a list that is walked
pub numbers_turn : (g : List ℕ) (at : ℕ) (l : List ℕ) (i end : ℕ) (l' : List ℕ)
    → i < length g
    → Written g at l (drop i g) end l'
    → Written g at l (drop (i + 1) g) (end + 1) (set l' end (get_or g i 0))
numbers_turn g at l i end l' h w =
    let next : drop i g ≡ get_or g i 0 ∷ drop (i + 1) g = rw add-one (drop-cons g i 0 h) in
    written_one g at l (drop (i + 1) g) end l' (get_or g i 0) (subst (λ (r : List ℕ). Written g at l r end l') next w)
