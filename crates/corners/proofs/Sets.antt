-- Three lists of equal length side by side: what is left of the entries says what all of them say.
-- Assumes nothing.
use Prim.Native.Nat.{ℕ, ◌+◌, ◌<◌, ◌≤◌}
use native.Mathlib.Nat.{add-zero}
use native.Mathlib.Numerals.{add-one}
use mathlib.Core.Path.{◌≡◌, sym, ap, ◌∙◌}
use mathlib.Core.Bool.{Bool, true, false, ◌&&◌}
use mathlib.Core.List.{List, [], ◌∷◌}
use borrow.Author.Tests.{leb-true, eqb-true}
use lib.Dec.{leb, eqb}
use lib.ListN.{length, get_or, take, drop}
use lib.Seq.{get_or-drop}
use Rattle.lists.specs.Beside.{beside_by}
use Rattle.lists.proofs.BesideLaws.{by_at, by_past}
use Rattle.lists.proofs.Bools.{and_first, and_second}
use Rattle.corners.specs.Corners.{set_ok, every}
use Rattle.corners.specs.Steps.{Lent}

-- lengths that pass
pub lent : {A : Type 0} (xs ys zs : List A) (n : ℕ) → set_ok (length xs) (length ys) (length zs) n ≡ true → Lent xs ys zs n
lent xs ys zs n e =
    let s = and_second (eqb (length xs) (length ys)) _ e in
    let t = and_second (eqb (length xs) (length zs)) _ s in
    record {
      fits = leb-true n (length xs) (and_second (leb (length xs) 1048576) _ t);
      second = sym (eqb-true (length xs) (length ys) (and_first _ _ e));
      third = sym (eqb-true (length xs) (length zs) (and_first _ _ s));
    }

pub both_lent :
    {A B : Type 0} (xs ys zs : List A) (n : ℕ) (is js ks : List B) (m : ℕ)
    → set_ok (length xs) (length ys) (length zs) n && set_ok (length is) (length js) (length ks) m ≡ true
    → Lent xs ys zs n × Lent is js ks m
both_lent xs ys zs n is js ks m e =
    (lent xs ys zs n (and_first _ _ e), lent is js ks m (and_second (set_ok (length xs) (length ys) (length zs) n) _ e))

module _ {A B : Type 0} (make : A → A → A → B) (d : A) where
  module _ (xs ys zs : List A) (n : ℕ) (l : Lent xs ys zs n) (i : ℕ) where
    -- the entry at place i, and those after it
    pub next : i < n
        → drop i (take n (beside_by make xs ys zs)) ≡ make (get_or xs i d) (get_or ys i d) (get_or zs i d) ∷ drop (i + 1) (take n (beside_by make xs ys zs))
    next h = by_at make xs ys zs d d d n i l.second l.third h l.fits ∙ rw (add-one i)

    pub none_left : n ≤ i → drop i (take n (beside_by make xs ys zs)) ≡ []
    none_left h = by_past make xs ys zs n i h

    pub entry_is : (o : B) → i < n → get_or (take n (beside_by make xs ys zs)) i o ≡ make (get_or xs i d) (get_or ys i d) (get_or zs i d)
    entry_is o h =
        ap (λ (k : ℕ). get_or (take n (beside_by make xs ys zs)) k o) (sym (add-zero i)) ∙ sym (get_or-drop i (take n (beside_by make xs ys zs)) 0 o) ∙ rw (next h)

    -- an entry that passes a test, one that fails, and no entry left
    module _ (test : B → Bool) where
      pub passes :
          i < n
          → test (make (get_or xs i d) (get_or ys i d) (get_or zs i d)) ≡ true
          → every test (drop i (take n (beside_by make xs ys zs))) ≡ every test (drop (i + 1) (take n (beside_by make xs ys zs)))
      unfolding every
      passes h e = rw (next h, e)

      pub fails : i < n → test (make (get_or xs i d) (get_or ys i d) (get_or zs i d)) ≡ false → every test (drop i (take n (beside_by make xs ys zs))) ≡ false
      unfolding every
      fails h e = rw (next h, e)

      pub done : n ≤ i → every test (drop i (take n (beside_by make xs ys zs))) ≡ true
      unfolding every
      done h = rw (none_left h)

      -- where all that are left pass, the first does, and the others
      all_pass :
          i < n
          → every test (drop i (take n (beside_by make xs ys zs))) ≡ true
          → test (make (get_or xs i d) (get_or ys i d) (get_or zs i d)) && every test (drop (i + 1) (take n (beside_by make xs ys zs))) ≡ true
      unfolding every
      all_pass h e = rw (next h) at e

      pub first_passes : i < n → every test (drop i (take n (beside_by make xs ys zs))) ≡ true → test (make (get_or xs i d) (get_or ys i d) (get_or zs i d)) ≡ true
      first_passes h e = and_first _ _ (all_pass h e)

      pub others_pass : i < n
          → every test (drop i (take n (beside_by make xs ys zs))) ≡ true
          → every test (drop (i + 1) (take n (beside_by make xs ys zs))) ≡ true
      others_pass h e = and_second (test (make (get_or xs i d) (get_or ys i d) (get_or zs i d))) _ (all_pass h e)
