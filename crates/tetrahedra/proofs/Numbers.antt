-- The number of an edge in a list where no edge stands twice.
-- Assumes nothing.
use Prim.Native.Nat.{ℕ, zero, suc, ◌<◌, min, max}
use native.Mathlib.Nat.{le_of_suc-le-suc, not-suc-le-zero}
use native.Mathlib.Omega.{arith}
use mathlib.Core.Path.{◌≡◌, refl, sym, ap, ◌∙◌}
use mathlib.Core.Logic.{⊎_elim}
use mathlib.Core.Bool.{Bool, true, false, cond, ◌&&◌, ◌||◌, false≢true, or-true}
use mathlib.Core.List.Memᴰ
use mathlib.Core.List.{List, [], ◌∷◌}
use lib.Dec.{eqb, eqb-zero-suc, eqb-suc-zero, eqb-suc-suc}
use lib.ListN.{length}
use borrow.Author.Tests.{eq-eqb, eqb-true}
use Rattle.floats.proofs.Values.{le_or_lt}
use Rattle.lists.specs.Lists.{◌∈◌, Ordered, Distinct}
use Rattle.lists.proofs.ListLaws.{at_in}
use Rattle.lists.proofs.Bools.{cases, and_first, and_second, or_cases, both_ways, eqb_comm}
use Rattle.edges.specs.Edges.{Edge, edge}
use Rattle.edges.specs.EdgeList.{pair_of}
use Rattle.groups.specs.Groups.{edge_at}
use Rattle.tetrahedra.specs.ClosedTriangles.{same_edge, number_in}

-- ---- the test for the same edge

pub same_edge_lem : (e f : Edge) → same_edge e f ≡ true → e ≡ f
same_edge_lem e f t =
    let a = eqb-true e.first f.first (and_first (eqb e.first f.first) _ t) in
    let b = eqb-true e.second f.second (and_second (eqb e.first f.first) _ t) in
    λ i. record { first = a i; second = b i }

pub edge_same : (e f : Edge) → e ≡ f → same_edge e f ≡ true
edge_same e f q =
    rw (eq-eqb e.first f.first (ap (λ (x : Edge). x.first) q), eq-eqb e.second f.second (ap (λ (x : Edge). x.second) q))

pub same_either : (e f : Edge) → same_edge e f ≡ same_edge f e
same_either e f = rw (eqb_comm e.first f.first, eqb_comm e.second f.second)

pub not_same : (e f : Edge) → (e ≡ f → ⊥) → same_edge e f ≡ false
not_same e f n = cases (λ (b : Bool). b ≡ false) (same_edge e f) (λ t. absurd (n (same_edge_lem e f t))) (λ t. refl)

-- of two pairs, whichever is named first
pub pair_same : (a b c d : ℕ) → same_edge (pair_of a b) (pair_of c d) ≡ (eqb a c && eqb b d) || (eqb a d && eqb b c)
pair_same a b c d = both_ways _ _ to from
  where
    to : same_edge (pair_of a b) (pair_of c d) ≡ true → ((eqb a c && eqb b d) || (eqb a d && eqb b c)) ≡ true
    to t =
        let p : min a b ≡ min c d = eqb-true (min a b) (min c d) (and_first (eqb (min a b) (min c d)) _ t) in
        let q : max a b ≡ max c d = eqb-true (max a b) (max c d) (and_second (eqb (min a b) (min c d)) _ t) in
        let straight : a ≡ c → b ≡ d → ((eqb a c && eqb b d) || (eqb a d && eqb b c)) ≡ true = λ e f. rw (eq-eqb a c e, eq-eqb b d f) in
        let crossed : a ≡ d → b ≡ c → ((eqb a c && eqb b d) || (eqb a d && eqb b c)) ≡ true = λ e f. rw (eq-eqb a d e, eq-eqb b c f)
        (or-true (eqb a c && eqb b d)) in
        ⊎_elim (λ l. ⊎_elim (λ m. straight (omega arith) (omega arith)) (λ m. crossed (omega arith) (omega arith)) (le_or_lt c d))
        (λ l. ⊎_elim (λ m. crossed (omega arith) (omega arith)) (λ m. straight (omega arith) (omega arith)) (le_or_lt c d))
        (le_or_lt a b)

    from : ((eqb a c && eqb b d) || (eqb a d && eqb b c)) ≡ true → same_edge (pair_of a b) (pair_of c d) ≡ true
    from t =
        ⊎_elim
        (λ h.
        let e = eqb-true a c (and_first (eqb a c) _ h) in
        let f = eqb-true b d (and_second (eqb a c) _ h) in
        rw (eq-eqb (min a b) (min c d) (omega arith), eq-eqb (max a b) (max c d) (omega arith)))
        (λ h.
        let e = eqb-true a d (and_first (eqb a d) _ h) in
        let f = eqb-true b c (and_second (eqb a d) _ h) in
        rw (eq-eqb (min a b) (min c d) (omega arith), eq-eqb (max a b) (max c d) (omega arith)))
        (or_cases (eqb a c && eqb b d) (eqb a d && eqb b c) t)

-- ---- numbers

-- one step of the number: whether the first is meant
number_front : (b : Bool) (n u : ℕ) → eqb (cond b 0 (suc n)) (suc u) ≡ cond b false (eqb n u)
number_front true n u = eqb-zero-suc u
number_front false n u = eqb-suc-suc n u

number_zero : (b : Bool) (n : ℕ) → eqb (cond b 0 (suc n)) 0 ≡ b
number_zero true n = refl
number_zero false n = eqb-suc-zero n

-- an edge has number u exactly when it stands at u
pub number_is : (es : List Edge) → Distinct es → (e : Edge) (u : ℕ) → u < length es → eqb (number_in es e) u ≡ same_edge e (edge_at es u)
unfolding number_in Ordered
number_is [] d e u l = absurd (not-suc-le-zero l)
number_is (f ∷ fs) d e zero l = number_zero (same_edge f e) (number_in fs e) ∙ same_either f e
number_is (f ∷ fs) d e (suc u) l =
    number_front (same_edge f e) (number_in fs e) u
    ∙ cases (λ (b : Bool). cond b false (eqb (number_in fs e) u) ≡ same_edge e (edge_at fs u)) (same_edge f e)
    (λ t.
    let m : edge_at fs u ∈ fs = at_in fs (edge 0 0) u (le_of_suc-le-suc l) in
    sym (not_same e (edge_at fs u) (λ q. d.0 (edge_at fs u) m (same_edge_lem f e t ∙ q))))
    (λ t. number_is fs d.1 e u (le_of_suc-le-suc l))

-- one that stands there has a number below the length, and stands at it
pub number_small : (es : List Edge) (e : Edge) → e ∈ es → number_in es e < length es
unfolding number_in
number_small [] e m = absurd (Memᴰ.not-nil m)
number_small (f ∷ fs) e m =
    cases (λ (b : Bool). cond b 0 (suc (number_in fs e)) < suc (length fs)) (same_edge f e) (λ t. omega arith)
    (λ t.
    ⊎_elim (λ q. absurd (false≢true (sym t ∙ edge_same f e (sym q)))) (λ n. let h = number_small fs e n in omega arith) (Memᴰ.cases_cons m))

-- two places with the same edge are the same
pub place_once : (es : List Edge) → Distinct es → (u v : ℕ) → u < length es → v < length es → edge_at es u ≡ edge_at es v → u ≡ v
place_once es d u v lu lv e =
    let a = number_is es d (edge_at es u) u lu ∙ edge_same (edge_at es u) (edge_at es u) refl in
    let b = number_is es d (edge_at es u) v lv ∙ edge_same (edge_at es u) (edge_at es v) e in
    sym (eqb-true _ _ a) ∙ eqb-true _ _ b
