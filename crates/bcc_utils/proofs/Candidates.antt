-- The candidates of a snap. One moves each coordinate by one or not at all, by its parity alone: every even candidate is as
-- far away as there are odd coordinates, and every odd one as there are even ones. So the first of the class that moves fewer
-- is the nearest of them, and of all lattice points. Assumes nothing.
use Prim.Native.Nat.{ℕ, zero, suc, ◌+◌, ◌*◌, ◌≤◌}
use native.Mathlib.Nat.{le_refl, le_of_lt, le_trans, add-le-add, mul-pos, le-mul_of_pos_right}
use native.Mathlib.Omega.{arith}
use mathlib.Core.Path.{◌≡◌, refl, sym, ap, ◌∙◌, subst}
use mathlib.Core.Bool.{Bool, true, false, cond, beq}
use mathlib.Core.List.Memᴰ
use mathlib.Core.List.{List, [], ◌∷◌}
use mathlib.Core.Logic.{⊎_elim}
use lib.Dec.{leb, ltb, lit≤}
use lib.IntN.{ℤ, pos, negsuc, suc_ℤ, pred_ℤ, neg_ℤ, nat_abs, ◌+ℤ◌, ◌-ℤ◌, +ℤ_invr, +ℤ-suc_ℤ, +ℤ-pred_ℤ, neg_ℤ-suc_ℤ, neg_ℤ-pred_ℤ, -ℤ-+ℤ_cancel, +ℤ_idl}
use borrow.Author.Tests.{le-ltb, leb-true, leb-false}
use Rattle.lists.specs.Lists.{◌∈◌, All}
use Rattle.lists.proofs.Bools.{cases, and_first, and_second}
use Rattle.bcc_utils.specs.Snapping.{Point, candidates, even, on_lattice, even_down, even_up, odd_up, odd_down, first_even, other_evens, first_odd, other_odds, square_of, squared_distance, nearest, nearer, nearest_candidate}
use Rattle.bcc_utils.specs.Steps.{most_of, mostly_even}

-- ---- how far a step moves

none_far : (z : ℤ) → square_of (z -ℤ z) ≡ 0
unfolding square_of
none_far z = ap (λ (d : ℤ). nat_abs d * nat_abs d) (+ℤ_invr z)

down_far : (z : ℤ) → square_of (z -ℤ pred_ℤ z) ≡ 1
unfolding square_of
down_far z =
    ap (λ (d : ℤ). nat_abs d * nat_abs d) (ap (λ (w : ℤ). z +ℤ w) (neg_ℤ-pred_ℤ z) ∙ +ℤ-suc_ℤ z (neg_ℤ z) ∙ ap suc_ℤ (+ℤ_invr z))

up_far : (z : ℤ) → square_of (z -ℤ suc_ℤ z) ≡ 1
unfolding square_of
up_far z =
    ap (λ (d : ℤ). nat_abs d * nat_abs d) (ap (λ (w : ℤ). z +ℤ w) (neg_ℤ-suc_ℤ z) ∙ +ℤ-pred_ℤ z (neg_ℤ z) ∙ ap pred_ℤ (+ℤ_invr z))

-- 0 for the parity that is wanted, 1 for the other
abbrev wrong : Bool → Bool → ℕ
wrong true b = cond b 0 1
wrong false b = cond b 1 0

-- how far a coordinate z is from the candidates of a parity
abbrev Off : Bool → ℤ → ℤ → Type 0
Off parity z a = square_of (z -ℤ a) ≡ wrong parity (even z)

picked : (z a b : ℤ) (m n : ℕ) → square_of (z -ℤ a) ≡ m → square_of (z -ℤ b) ≡ n → (t : Bool) → square_of (z -ℤ cond t a b) ≡ cond t m n
picked z a b m n p q true = p
picked z a b m n p q false = q

even_down_off : (z : ℤ) → Off true z (even_down z)
unfolding even_down
even_down_off z = picked z z (pred_ℤ z) 0 1 (none_far z) (down_far z) (even z)

even_up_off : (z : ℤ) → Off true z (even_up z)
unfolding even_up
even_up_off z = picked z z (suc_ℤ z) 0 1 (none_far z) (up_far z) (even z)

odd_up_off : (z : ℤ) → Off false z (odd_up z)
unfolding odd_up
odd_up_off z = picked z (suc_ℤ z) z 1 0 (up_far z) (none_far z) (even z)

odd_down_off : (z : ℤ) → Off false z (odd_down z)
unfolding odd_down
odd_down_off z = picked z (pred_ℤ z) z 1 0 (down_far z) (none_far z) (even z)

-- no coordinate moves by more than one
moves : (d : ℤ) (b : Bool) (m n : ℕ) → square_of d ≡ cond b m n → m ≤ 1 → n ≤ 1 → nat_abs d ≤ 1
unfolding square_of
moves d b m n e h k = root (nat_abs d) (rw e (either b))
  where
    root : (k : ℕ) → k * k ≤ 1 → k ≤ 1
    root zero h = lit≤ tt
    root (suc k) h = le_trans (le-mul_of_pos_right (suc k) (omega arith)) h

    either : (b : Bool) → cond b m n ≤ 1
    either true = h
    either false = k

pub even_down_moves : (z : ℤ) → nat_abs (z -ℤ even_down z) ≤ 1
even_down_moves z = moves _ (even z) 0 1 (even_down_off z) (lit≤ tt) (lit≤ tt)

pub odd_up_moves : (z : ℤ) → nat_abs (z -ℤ odd_up z) ≤ 1
odd_up_moves z = moves _ (even z) 1 0 (odd_up_off z) (lit≤ tt) (lit≤ tt)

-- a coordinate of the other parity is no nearer than a candidate's
self_right : (b : Bool) → wrong b b ≡ 0
self_right true = refl
self_right false = refl

wrong_small : (a b : Bool) → wrong a b ≤ 1
wrong_small true true = lit≤ tt
wrong_small true false = lit≤ tt
wrong_small false true = lit≤ tt
wrong_small false false = lit≤ tt

at_least : (z a : ℤ) → wrong (even a) (even z) ≤ square_of (z -ℤ a)
unfolding square_of
at_least z a = go (z -ℤ a) refl
  where
    same : z -ℤ a ≡ pos 0 → z ≡ a
    same e = sym (-ℤ-+ℤ_cancel z a) ∙ ap (λ (d : ℤ). d +ℤ a) e ∙ +ℤ_idl a

    go : (d : ℤ) → z -ℤ a ≡ d → wrong (even a) (even z) ≤ nat_abs d * nat_abs d
    go (pos zero) e = rw (same e, self_right (even a)) (lit≤ tt)
    go (pos (suc n)) e = omega (arith, wrong_small (even a) (even z), mul-pos {m = suc n} {n = suc n} (omega arith) (omega arith))
    go (negsuc n) e = omega (arith, wrong_small (even a) (even z), mul-pos {m = suc n} {n = suc n} (omega arith) (omega arith))

-- the smaller of two numbers, by the test
smaller_of : (m n : ℕ) (t : Bool) → leb m n ≡ t → (cond t m n ≤ m) × (cond t m n ≤ n)
smaller_of m n true e = (le_refl m, leb-true m n e)
smaller_of m n false e = (le_of_lt (leb-false m n e), le_refl n)

-- the coordinates of a lattice point have one parity
beq_same : (a b : Bool) → beq a b ≡ true → a ≡ b
beq_same true true e = refl
beq_same true false e = sym e
beq_same false true e = e
beq_same false false e = refl

pub same_parity_lem : (a b c : ℤ) → on_lattice a b c ≡ true → (even a ≡ even b) × (even a ≡ even c)
unfolding on_lattice
same_parity_lem a b c h =
    let p : even a ≡ even b = beq_same _ _ (and_first _ _ h) in (p, p ∙ beq_same _ _ (and_second (beq (even a) (even b)) _ h))

-- what holds of all holds of each
member : (P : Point → Type 0) (qs : List Point) (q : Point) → All P qs → q ∈ qs → P q
unfolding All
member P [] q h m = absurd (Memᴰ.not-nil m)
member P (p ∷ qs) q h m =
    ⊎_elim (λ e. subst P (sym e) h.0) (λ n. member P qs q h.1 n) (Memᴰ.cases_cons m)

-- ---- how far the candidates are

module _ (x y z : ℤ) where
  -- the coordinates that are not of the parity
  abbrev wrongs : Bool → ℕ
  wrongs parity = wrong parity (even x) + wrong parity (even y) + wrong parity (even z)

  abbrev Far : Bool → Point → Type 0
  Far parity q = squared_distance (x, y, z) q ≡ wrongs parity

  far : (parity : Bool) (a b c : ℤ) → Off parity x a → Off parity y b → Off parity z c → Far parity (a, b, c)
  unfolding squared_distance
  far parity a b c p q r = rw (p, q, r)

  -- the first of several that are equally far stays the best
  abbrev AllFar : ℕ → List Point → Type 0
  AllFar d qs = All (λ q. squared_distance (x, y, z) q ≡ d) qs

  first_stays : (d : ℕ) (best : Point) (qs : List Point) → squared_distance (x, y, z) best ≡ d → AllFar d qs → nearest (x, y, z) best qs ≡ best
  unfolding nearest All
  first_stays d best [] e h = refl
  first_stays d best (q ∷ qs) e h =
      ap (λ (t : Bool). nearest (x, y, z) (cond t q best) qs)
      (ap (λ (n : ℕ). ltb n (squared_distance (x, y, z) best)) h.0 ∙ ap (ltb d) e ∙ le-ltb d d (le_refl d))
      ∙ first_stays d best qs e h.1

  first_even_far : Far true (first_even x y z)
  first_even_far = far true _ _ _ (even_down_off x) (even_down_off y) (even_down_off z)

  other_evens_far : AllFar (wrongs true) (other_evens x y z)
  unfolding All
  other_evens_far =
      let dx = even_down_off x in let dy = even_down_off y in let dz = even_down_off z in
      let ux = even_up_off x in let uy = even_up_off y in let uz = even_up_off z in (
        far true _ _ _ ux dy dz,
        (
          far true _ _ _ dx uy dz,
          (
            far true _ _ _ ux uy dz,
            (
              far true _ _ _ dx dy uz,
              (
                far true _ _ _ ux dy uz,
                (
                  far true _ _ _ dx uy uz,
                  (far true _ _ _ ux uy uz, tt),
                ),
              ),
            ),
          ),
        ),
      )

  first_odd_far : Far false (first_odd x y z)
  first_odd_far = far false _ _ _ (odd_up_off x) (odd_up_off y) (odd_up_off z)

  other_odds_far : AllFar (wrongs false) (other_odds x y z)
  unfolding All
  other_odds_far =
      let ux = odd_up_off x in let uy = odd_up_off y in let uz = odd_up_off z in
      let dx = odd_down_off x in let dy = odd_down_off y in let dz = odd_down_off z in (
        far false _ _ _ dx uy uz,
        (
          far false _ _ _ ux dy uz,
          (
            far false _ _ _ dx dy uz,
            (
              far false _ _ _ ux uy dz,
              (
                far false _ _ _ dx uy dz,
                (
                  far false _ _ _ ux dy dz,
                  (far false _ _ _ dx dy dz, tt),
                ),
              ),
            ),
          ),
        ),
      )

  -- ---- the nearest candidate

  -- fewer coordinates are odd than even exactly when most are even
  by_parity : (a b c : Bool) → leb (wrong true a + wrong true b + wrong true c) (wrong false a + wrong false b + wrong false c) ≡ most_of a b c
  by_parity true true true = refl
  by_parity true true false = refl
  by_parity true false true = refl
  by_parity true false false = refl
  by_parity false true true = refl
  by_parity false true false = refl
  by_parity false false true = refl
  by_parity false false false = refl

  pub nearest_candidate_is : nearest_candidate x y z ≡ cond (mostly_even x y z) (first_even x y z) (first_odd x y z)
  unfolding nearest_candidate nearer
  nearest_candidate_is =
      rw (
        first_stays (wrongs true) (first_even x y z) (other_evens x y z) first_even_far other_evens_far,
        first_stays (wrongs false) (first_odd x y z) (other_odds x y z) first_odd_far other_odds_far,
        first_even_far,
        first_odd_far,
        by_parity (even x) (even y) (even z),
      )

  pub candidate_even : mostly_even x y z ≡ true → nearest_candidate x y z ≡ first_even x y z
  candidate_even e = rw (nearest_candidate_is, e)

  pub candidate_odd : mostly_even x y z ≡ false → nearest_candidate x y z ≡ first_odd x y z
  candidate_odd e = rw (nearest_candidate_is, e)

  -- ---- no candidate and no lattice point is nearer

  nearest_far : squared_distance (x, y, z) (nearest_candidate x y z) ≡ cond (mostly_even x y z) (wrongs true) (wrongs false)
  nearest_far =
      cases (λ b. squared_distance (x, y, z) (nearest_candidate x y z) ≡ cond b (wrongs true) (wrongs false)) (mostly_even x y z)
      (λ e. rw (candidate_even e) first_even_far)
      (λ e. rw (candidate_odd e) first_odd_far)

  nearest_least : (parity : Bool) → squared_distance (x, y, z) (nearest_candidate x y z) ≤ wrongs parity
  nearest_least true = rw nearest_far (smaller_of (wrongs true) (wrongs false) (mostly_even x y z) (by_parity (even x) (even y) (even z))).0
  nearest_least false = rw nearest_far (smaller_of (wrongs true) (wrongs false) (mostly_even x y z) (by_parity (even x) (even y) (even z))).1

  pub least_candidate : (q : Point) → q ∈ candidates x y z → squared_distance (x, y, z) (nearest_candidate x y z) ≤ squared_distance (x, y, z) q
  unfolding All
  least_candidate q m =
      ⊎_elim
      (λ n. rw (member (Far true) (first_even x y z ∷ other_evens x y z) q (first_even_far, other_evens_far) n) (nearest_least true))
      (λ n. rw (member (Far false) (first_odd x y z ∷ other_odds x y z) q (first_odd_far, other_odds_far) n) (nearest_least false))
      (Memᴰ.append_cases (first_even x y z ∷ other_evens x y z) m)

  pub least_point : (a b c : ℤ) → on_lattice a b c ≡ true → squared_distance (x, y, z) (nearest_candidate x y z) ≤ squared_distance (x, y, z) (a, b, c)
  unfolding squared_distance
  least_point a b c h =
      let p = same_parity_lem a b c h in
      le_trans (nearest_least (even a)) (add-le-add (add-le-add (at_least x a) (rw p.0 (at_least y b))) (rw p.1 (at_least z c)))
