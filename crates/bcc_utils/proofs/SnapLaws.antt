-- What snapping is known by: the answer is on the lattice, no coordinate moves by more than one, no candidate and no lattice
-- point is nearer, a lattice point stays, and 9 is given exactly as document 01 says. Each follows from the nearest
-- candidate's place, which is the point itself on the lattice. Assumes nothing.
use Rattle.std.specs.Prelude.{Ok, Err, Result}
use Prim.Native.Nat.{ℕ, zero, suc, ◌%◌, ◌≤◌}
use native.Mathlib.Omega.{arith}
use mathlib.Core.Path.{◌≡◌, refl, sym, ap, ◌∙◌, subst}
use mathlib.Core.Logic.{◌↔◌}
use mathlib.Core.Bool.{Bool, true, false, cond, not, not-not}
use lib.Dec.{eqb}
use lib.IntN.{ℤ, pos, negsuc, suc_ℤ, pred_ℤ, nat_abs, ◌-ℤ◌}
use borrow.Author.Tests.{eqb-true, eqb-false, eq-eqb, ne_eqb}
use Rattle.lists.specs.Lists.{◌∈◌}
use Rattle.lists.proofs.Bools.{cases}
use Rattle.refusals.specs.declared.Refusal.{Refusal}
use Rattle.refusals.specs.declared.Refusal.TheVariants.{OutOfRange}
use Rattle.bcc_utils.specs.declared.WideCells.{WideCells}
use Rattle.bcc_utils.specs.Snapping.{Point, even, on_lattice, even_down, odd_up, first_even, first_odd, candidates, squared_distance, nearest_candidate, placed, has_end, snapped, snapped_place}
use Rattle.bcc_utils.specs.Steps.{mostly_even}
use Rattle.bcc_utils.proofs.Candidates.{same_parity_lem, candidate_even, candidate_odd, even_down_moves, odd_up_moves, least_candidate, least_point}

-- ---- parity

-- the next number has the other parity
other : (n : ℕ) → eqb (suc n % 2) 0 ≡ not (eqb (n % 2) 0)
other n =
    cases (λ b. eqb (suc n % 2) 0 ≡ not b) (eqb (n % 2) 0)
    (λ e. ne_eqb (suc n % 2) 0 (λ q. omega (arith, eqb-true (n % 2) 0 e)))
    (λ e. let h : n % 2 ≡ 0 → ⊥ = eqb-false (n % 2) 0 e in eq-eqb (suc n % 2) 0 (omega arith))

before : (n : ℕ) → eqb (n % 2) 0 ≡ not (eqb (suc n % 2) 0)
before n = sym (not-not _) ∙ ap not (sym (other n))

even_suc : (z : ℤ) → even (suc_ℤ z) ≡ not (even z)
unfolding even
even_suc (pos n) = other n
even_suc (negsuc zero) = refl
even_suc (negsuc (suc n)) = before (suc n)

even_pred : (z : ℤ) → even (pred_ℤ z) ≡ not (even z)
unfolding even
even_pred (pos zero) = refl
even_pred (pos (suc n)) = before n
even_pred (negsuc n) = other (suc n)

-- a number or its neighbour, by its parity
pub even_down_even : (z : ℤ) → even (even_down z) ≡ true
unfolding even_down
even_down_even z = cases (λ b. even (cond b z (pred_ℤ z)) ≡ true) (even z) (λ e. e) (λ e. even_pred z ∙ ap not e)

pub odd_up_odd : (z : ℤ) → even (odd_up z) ≡ false
unfolding odd_up
odd_up_odd z = cases (λ b. even (cond b (suc_ℤ z) z) ≡ false) (even z) (λ e. even_suc z ∙ ap not e) (λ e. e)

even_stays : (z : ℤ) → even z ≡ true → even_down z ≡ z
unfolding even_down
even_stays z e = ap (λ (b : Bool). cond b z (pred_ℤ z)) e

odd_stays : (z : ℤ) → even z ≡ false → odd_up z ≡ z
unfolding odd_up
odd_stays z e = ap (λ (b : Bool). cond b (suc_ℤ z) z) e

at_not_refused : {a b c : WideCells} {r : Refusal} → ◌≡◌ {A = Result (WideCells × WideCells × WideCells) Refusal} (Ok (a, b, c)) (Err r) → ⊥
at_not_refused e = let z : ◌≡◌ {A = ℕ} 0 1 = cc in omega arith

module _ (x y z : ℤ) where
  -- ---- the nearest candidate

  -- what holds of the first of each class holds of the nearest candidate
  by_class : (P : Point → Type 0) → P (first_even x y z) → P (first_odd x y z) → P (nearest_candidate x y z)
  by_class P p q =
      cases (λ b. P (nearest_candidate x y z)) (mostly_even x y z)
      (λ e. subst P (sym (candidate_even x y z e)) p)
      (λ e. subst P (sym (candidate_odd x y z e)) q)

  nearest_on_lattice : on_lattice (nearest_candidate x y z).0 (nearest_candidate x y z).1 (nearest_candidate x y z).2 ≡ true
  unfolding on_lattice
  nearest_on_lattice =
      by_class (λ q. on_lattice q.0 q.1 q.2 ≡ true)
      (rw (even_down_even x, even_down_even y, even_down_even z))
      (rw (odd_up_odd x, odd_up_odd y, odd_up_odd z))

  nearest_moves : (nat_abs (x -ℤ (nearest_candidate x y z).0) ≤ 1) × (nat_abs (y -ℤ (nearest_candidate x y z).1) ≤ 1) × (nat_abs (z -ℤ (nearest_candidate x y z).2) ≤ 1)
  nearest_moves =
      by_class (λ q. (nat_abs (x -ℤ q.0) ≤ 1) × (nat_abs (y -ℤ q.1) ≤ 1) × (nat_abs (z -ℤ q.2) ≤ 1))
      (even_down_moves x, even_down_moves y, even_down_moves z)
      (odd_up_moves x, odd_up_moves y, odd_up_moves z)

  -- on the lattice it is the point itself
  nearest_stays : on_lattice x y z ≡ true → nearest_candidate x y z ≡ (x, y, z)
  nearest_stays h = cases (λ b. nearest_candidate x y z ≡ (x, y, z)) (even x) evens odds
    where
      y_is : {b : Bool} → even x ≡ b → even y ≡ b
      y_is p = sym (same_parity_lem x y z h).0 ∙ p

      z_is : {b : Bool} → even x ≡ b → even z ≡ b
      z_is p = sym (same_parity_lem x y z h).1 ∙ p

      evens : even x ≡ true → nearest_candidate x y z ≡ (x, y, z)
      evens p = candidate_even x y z (simp (p, y_is p)) ∙ rw (even_stays x p, even_stays y (y_is p), even_stays z (z_is p))

      odds : even x ≡ false → nearest_candidate x y z ≡ (x, y, z)
      odds p = candidate_odd x y z (simp (p, y_is p)) ∙ rw (odd_stays x p, odd_stays y (y_is p), odd_stays z (z_is p))

  -- ---- the answer

  -- A lattice point stays, at the ends of i32 too.
  pub snap_stays : on_lattice x y z ≡ true → snapped x y z ≡ placed (x, y, z)
  unfolding snapped
  snap_stays h = rw h

  -- Refused with 9 exactly when the parities are mixed and a coordinate is an end of i32.
  pub snap_refused : (r : Refusal) → (snapped x y z ≡ Err r) ↔ ((on_lattice x y z ≡ false) × (has_end x y z ≡ true) × (r ≡ OutOfRange))
  unfolding snapped
  snap_refused r = (λ e. go (on_lattice x y z) (has_end x y z) refl refl e, λ h. rw (h.0, h.1, h.2))
    where
      go : (a b : Bool) → on_lattice x y z ≡ a → has_end x y z ≡ b →
          cond a (placed (x, y, z)) (cond b (Err OutOfRange) (placed (nearest_candidate x y z))) ≡ Err r → (a ≡ false) × (b ≡ true) × (r ≡ OutOfRange)
      go true b p q e = absurd (at_not_refused e)
      go false true p q e = (refl, refl, cc)
      go false false p q e = absurd (at_not_refused e)

  -- What is answered is the nearest candidate.
  pub snap_is_nearest : (a b c : WideCells) → snapped x y z ≡ Ok (a, b, c) → nearest_candidate x y z ≡ (a.0, b.0, c.0)
  unfolding snapped snapped_place
  snap_is_nearest a b c e = go (on_lattice x y z) (has_end x y z) refl e
    where
      go : (s t : Bool) → on_lattice x y z ≡ s →
          cond s (placed (x, y, z)) (cond t (Err OutOfRange) (placed (nearest_candidate x y z))) ≡ Ok (a, b, c) → nearest_candidate x y z ≡ (a.0, b.0, c.0)
      go true t h e = nearest_stays h ∙ ap snapped_place e
      go false true h e = absurd (at_not_refused (sym e))
      go false false h e = ap snapped_place e

  module _ (a b c : WideCells) (e : snapped x y z ≡ Ok (a, b, c)) where
    -- The answer is on the lattice.
    pub snap_on_lattice : on_lattice a.0 b.0 c.0 ≡ true
    snap_on_lattice = subst (λ (q : Point). on_lattice q.0 q.1 q.2 ≡ true) (snap_is_nearest a b c e) nearest_on_lattice

    -- No coordinate moves by more than one.
    pub snap_moves : (nat_abs (x -ℤ a.0) ≤ 1) × (nat_abs (y -ℤ b.0) ≤ 1) × (nat_abs (z -ℤ c.0) ≤ 1)
    snap_moves =
        subst (λ (q : Point). (nat_abs (x -ℤ q.0) ≤ 1) × (nat_abs (y -ℤ q.1) ≤ 1) × (nat_abs (z -ℤ q.2) ≤ 1)) (snap_is_nearest a b c e) nearest_moves

    -- None of the sixteen candidates is nearer.
    pub snap_least : (q : Point) → q ∈ candidates x y z → squared_distance (x, y, z) (a.0, b.0, c.0) ≤ squared_distance (x, y, z) q
    snap_least q m =
        subst (λ (p : Point). squared_distance (x, y, z) p ≤ squared_distance (x, y, z) q) (snap_is_nearest a b c e) (least_candidate x y z q m)

    -- No point of the lattice at all is nearer.
    pub snap_nearest : (u v w : ℤ) → on_lattice u v w ≡ true → squared_distance (x, y, z) (a.0, b.0, c.0) ≤ squared_distance (x, y, z) (u, v, w)
    snap_nearest u v w h =
        subst (λ (p : Point). squared_distance (x, y, z) p ≤ squared_distance (x, y, z) (u, v, w)) (snap_is_nearest a b c e) (least_point x y z u v w h)
