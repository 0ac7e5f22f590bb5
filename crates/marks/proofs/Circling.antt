-- The way around the places from one of them, which a label takes that goes in, and one that goes out: no place on it is empty. Assumes nothing.
use mathlib.Core.Path.{◌≡◌, refl, sym, ap, ◌∙◌}
use mathlib.Core.Bool.{Bool, cond}
use mathlib.Core.List.{List, [], ◌∷◌}
use Prim.Native.Nat.{ℕ, zero, suc, ◌+◌, ◌-◌, ◌<◌, ◌≤◌, suc-le-suc}
use native.Mathlib.Nat.{not-suc-le-zero, le_of_suc-le-suc}
use native.Mathlib.Omega.{arith}
use borrow.Author.Tests.{eq-eqb, ne_eqb}
use lib.Dec.{eqb}
use lib.ListN.{length, get_or, set, length-set}
use lib.Seq.{get_or-set_same, get_or-set_other}
use lib.Ieee.{Float}
use Rattle.lists.proofs.Bools.{cases}
use Rattle.marks.specs.Marks.{along, occupied, following}
use Rattle.marks.proofs.Pathing.{one_or_two, along_first, along_onward, along_later, along_last, along_most, following_within}
use Rattle.marks.proofs.Keeping.{within}

-- ---- empty places

pub occupied_full : (ks : List ℕ) → ((q : ℕ) → q < length ks → get_or ks q 0 ≡ 0 → ⊥) → length ks ≤ occupied ks
unfolding occupied
occupied_full [] f = omega arith
occupied_full (x ∷ xs) f = rw (ne_eqb x 0 (f zero (omega arith))) (suc-le-suc (occupied_full xs (λ q l. f (suc q) (suc-le-suc l))))

occupied_same : (ks : List ℕ) (i x : ℕ) → (get_or ks i 0 ≡ 0 → ⊥) → (x ≡ 0 → ⊥) → occupied (set ks i x) ≡ occupied ks
unfolding occupied
occupied_same [] i x n m = refl
occupied_same (y ∷ ys) zero x n m = rw (ne_eqb x 0 m, ne_eqb y 0 n)
occupied_same (y ∷ ys) (suc i) x n m = rw (occupied_same ys i x n m)

pub occupied_more : (ks : List ℕ) (i x : ℕ) → i < length ks → get_or ks i 0 ≡ 0 → (x ≡ 0 → ⊥) → occupied (set ks i x) ≡ suc (occupied ks)
unfolding occupied
occupied_more [] i x l n m = absurd (not-suc-le-zero l)
occupied_more (y ∷ ys) zero x l n m = rw (ne_eqb x 0 m, eq-eqb y 0 n)
occupied_more (y ∷ ys) (suc i) x l n m =
    rw (occupied_more ys i x (le_of_suc-le-suc l) n m)
    (cases (λ (b : Bool). cond b (suc (occupied ys)) (suc (suc (occupied ys))) ≡ suc (cond b (occupied ys) (suc (occupied ys)))) (eqb y 0)
    (λ e. refl) (λ e. refl))

-- ---- another label at a place

module _ (ks : List ℕ) (i x : ℕ) (l : i < length ks) where
  pub here : get_or (set ks i x) i 0 ≡ x
  here = get_or-set_same ks i x 0 l

  -- what the list holds at a place, this one or another
  pub split : (P : ℕ → ℕ → Type 0) (q : ℕ) → P i x → ((q ≡ i → ⊥) → P q (get_or ks q 0)) → P q (get_or (set ks i x) q 0)
  split P q f g = one_or_two q i (λ z. rw (z, here) f) (λ z. rw (get_or-set_other ks i q x 0 z) (g z))

-- ---- the way

-- the place i is reached on the way around from p; the lists are as long as they were
pub record Around (p : ℕ) (ks₀ : List ℕ) (i : ℕ) (ks : List ℕ) (ds : List Float) : Type 0 where
  pub start : p < length ks₀
  pub inside : i < length ks
  pub places : length ks ≡ length ks₀
  pub values : length ds ≡ length ks

-- no place before i on it is empty, and as many are taken as were
pub record NoneEmpty (p : ℕ) (ks₀ : List ℕ) (i : ℕ) (ks : List ℕ) : Type 0 where
  pub taken : (q : ℕ) → q < length ks → along p (length ks) q < along p (length ks) i → get_or ks q 0 ≡ 0 → ⊥
  pub count : occupied ks ≡ occupied ks₀

pub around_begun : (p : ℕ) (ks : List ℕ) (ds : List Float) → p < length ks → length ds ≡ length ks → Around p ks p ks ds
around_begun p ks ds l m = record { start = l; inside = l; places = refl; values = m }

pub filled_begun : (p : ℕ) (ks : List ℕ) → p < length ks → NoneEmpty p ks p ks
filled_begun p ks l = record { taken = λ q m a. absurd (along_first p (length ks) (omega arith) q a); count = refl }

-- another label takes a place
pub filled_set : (p : ℕ) (ks₀ : List ℕ) (i : ℕ) (ks : List ℕ) (j x : ℕ) → (get_or ks j 0 ≡ 0 → ⊥) → (x ≡ 0 → ⊥)
    → NoneEmpty p ks₀ i ks → NoneEmpty p ks₀ i (set ks j x)
filled_set p ks₀ i ks j x n m f =
    record {
      taken = rw (length-set ks j x) (λ q a b. split ks j x (within ks j n) (λ (r y : ℕ). y ≡ 0 → ⊥) q m (λ z. f.taken q a b));
      count = occupied_same ks j x n m ∙ f.count;
    }

module _ (p : ℕ) (ks₀ : List ℕ) (i : ℕ) (ks : List ℕ) (ds : List Float) (h : Around p ks₀ i ks ds) where
  -- other contents
  pub around_set : (j x : ℕ) (d : Float) → Around p ks₀ i (set ks j x) (set ds j d)
  around_set j x d =
      record {
        start = h.start;
        inside = rw (length-set ks j x) h.inside;
        places = length-set ks j x ∙ h.places;
        values = length-set ds j d ∙ h.values ∙ sym (length-set ks j x);
      }

  module _ (j : ℕ) (e : j ≡ following i (length ks)) where
    pub around_on : Around p ks₀ j ks ds
    around_on = record {
      start = h.start;
      inside = rw e (following_within i (length ks) h.inside);
      places = h.places;
      values = h.values;
    }

    -- less of the way is left
    pub around_less : (j ≡ p → ⊥) → p + length ks₀ - along p (length ks₀) j < p + length ks₀ - along p (length ks₀) i
    around_less f =
        let y = along_later p (length ks₀) i h.start (rw h.places at h.inside) in
        let z = along_most p (length ks₀) i h.start (rw h.places at h.inside) in
        let q : j ≡ following i (length ks₀) = e ∙ ap (λ (m : ℕ). following i m) h.places in
        let w : along p (length ks₀) i < along p (length ks₀) j = rw q (y (λ g. f (q ∙ g))) in
        omega arith

    module _ (n : get_or ks i 0 ≡ 0 → ⊥) (f : NoneEmpty p ks₀ i ks) where
      -- this place is taken too
      pub filled_on : NoneEmpty p ks₀ j ks
      filled_on = record {
        taken = rw e (along_onward p (length ks) (rw h.places below) (λ (q : ℕ). get_or ks q 0 ≡ 0 → ⊥) i h.inside n f.taken);
        count = f.count;
      }
        where
          below : p ≤ length ks₀
          below = let s = h.start in omega arith

      -- once around, every place is taken
      pub filled_none : j ≡ p → length ks₀ ≤ occupied ks₀
      filled_none g =
          rw (← h.places, ← f.count)
          (occupied_full ks
          (λ q a.
          one_or_two q i (λ z. rw z n)
          (λ z. f.taken q a (along_last p (length ks) i (rw h.places h.start) h.inside (sym e ∙ g) q a z))))
