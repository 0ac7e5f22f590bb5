-- Three lists of equal length side by side: how many, the one at a place, one set, two parts. Assumes nothing.
use mathlib.Core.Path.{◌≡◌, refl, sym, ap}
use mathlib.Core.List.{List, [], ◌∷◌, ◌++◌}
use Prim.Native.Nat.{ℕ, zero, suc, ◌<◌, ◌≤◌}
use native.Mathlib.Nat.{not-suc-le-zero, le_of_suc-le-suc, suc-ne-zero, suc_inj}
use native.Mathlib.Omega.{arith}
use lib.ListN.{length, get_or, take, drop, set, length-take, drop_of_length-le}
use Rattle.lists.specs.Beside.{beside_by}

module _ {A B C D : Type 0} (make : A → B → C → D) where
  -- as many as places
  pub by_length : (as' : List A) (bs : List B) (cs : List C)
      → length bs ≡ length as'
      → length cs ≡ length as'
      → length (beside_by make as' bs cs) ≡ length as'
  unfolding beside_by
  by_length [] bs cs p q = refl
  by_length (a ∷ as') [] cs p q = absurd (suc-ne-zero _ (sym p))
  by_length (a ∷ as') (b ∷ bs) [] p q = absurd (suc-ne-zero _ (sym q))
  by_length (a ∷ as') (b ∷ bs) (c ∷ cs) p q = ap suc (by_length as' bs cs (suc_inj p) (suc_inj q))

  -- of the first n the one at place i, and those after it
  pub by_at : (as' : List A) (bs : List B) (cs : List C) (x : A) (y : B) (z : C) (n i : ℕ)
      → length bs ≡ length as'
      → length cs ≡ length as'
      → i < n
      → n ≤ length as'
      → drop i (take n (beside_by make as' bs cs))
      ≡ make (get_or as' i x) (get_or bs i y) (get_or cs i z) ∷ drop (suc i) (take n (beside_by make as' bs cs))
  unfolding beside_by
  by_at as' bs cs x y z zero i p q h g = absurd (not-suc-le-zero h)
  by_at [] bs cs x y z (suc n) i p q h g = absurd (not-suc-le-zero g)
  by_at (a ∷ as') [] cs x y z (suc n) i p q h g = absurd (suc-ne-zero _ (sym p))
  by_at (a ∷ as') (b ∷ bs) [] x y z (suc n) i p q h g = absurd (suc-ne-zero _ (sym q))
  by_at (a ∷ as') (b ∷ bs) (c ∷ cs) x y z (suc n) zero p q h g = refl
  by_at (a ∷ as') (b ∷ bs) (c ∷ cs) x y z (suc n) (suc i) p q h g =
      by_at as' bs cs x y z n i (suc_inj p) (suc_inj q) (le_of_suc-le-suc h) (le_of_suc-le-suc g)

  -- past the first n there is none
  pub by_past : (as' : List A) (bs : List B) (cs : List C) (n i : ℕ) → n ≤ i → drop i (take n (beside_by make as' bs cs)) ≡ []
  by_past as' bs cs n i h = drop_of_length-le (take n (beside_by make as' bs cs)) {i = i} (rw length-take (omega arith))

  -- the first so many as there are places are all
  pub by_whole : (as' : List A) (bs : List B) (cs : List C) → take (length as') (beside_by make as' bs cs) ≡ beside_by make as' bs cs
  unfolding beside_by
  by_whole [] bs cs = refl
  by_whole (a ∷ as') [] cs = refl
  by_whole (a ∷ as') (b ∷ bs) [] = refl
  by_whole (a ∷ as') (b ∷ bs) (c ∷ cs) = ap (λ (l : List D). make a b c ∷ l) (by_whole as' bs cs)

  -- two parts, one after the other
  pub by_append : (as' as'' : List A) (bs bs' : List B) (cs cs' : List C)
      → length bs ≡ length as'
      → length cs ≡ length as'
      → beside_by make (as' ++ as'') (bs ++ bs') (cs ++ cs') ≡ beside_by make as' bs cs ++ beside_by make as'' bs' cs'
  unfolding beside_by
  by_append [] as'' [] bs' [] cs' p q = refl
  by_append [] as'' (b ∷ bs) bs' cs cs' p q = absurd (suc-ne-zero _ p)
  by_append [] as'' [] bs' (c ∷ cs) cs' p q = absurd (suc-ne-zero _ q)
  by_append (a ∷ as') as'' [] bs' cs cs' p q = absurd (suc-ne-zero _ (sym p))
  by_append (a ∷ as') as'' (b ∷ bs) bs' [] cs' p q = absurd (suc-ne-zero _ (sym q))
  by_append (a ∷ as') as'' (b ∷ bs) bs' (c ∷ cs) cs' p q =
      ap (λ (l : List D). make a b c ∷ l) (by_append as' as'' bs bs' cs cs' (suc_inj p) (suc_inj q))

  -- one place of each set
  pub by_set : (as' : List A) (bs : List B) (cs : List C) (i : ℕ) (a : A) (b : B) (c : C)
      → length bs ≡ length as'
      → length cs ≡ length as'
      → beside_by make (set as' i a) (set bs i b) (set cs i c) ≡ set (beside_by make as' bs cs) i (make a b c)
  unfolding beside_by
  by_set [] bs cs i a b c p q = refl
  by_set (x ∷ as') [] cs i a b c p q = absurd (suc-ne-zero _ (sym p))
  by_set (x ∷ as') (y ∷ bs) [] i a b c p q = absurd (suc-ne-zero _ (sym q))
  by_set (x ∷ as') (y ∷ bs) (z ∷ cs) zero a b c p q = refl
  by_set (x ∷ as') (y ∷ bs) (z ∷ cs) (suc i) a b c p q =
      ap (λ (l : List D). make x y z ∷ l) (by_set as' bs cs i a b c (suc_inj p) (suc_inj q))
