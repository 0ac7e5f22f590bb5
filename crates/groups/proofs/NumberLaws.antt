-- Finding an edge's number by halves: the first keys of an edge list ascend, though not strictly, so the edges that start at a key stand together
-- from its place on.
-- Assumes nothing.
use Rattle.std.specs.Prelude.{Some, None, Option}
use Prim.Native.Nat.{ℕ, zero, suc, ◌+◌, ◌-◌, ◌≤◌, ◌<◌, zero-le, suc-le-suc}
use native.Mathlib.Nat.{not-suc-le-zero, le_of_suc-le-suc, suc-ne-zero, suc_inj, zero-lt-suc}
use native.Mathlib.Numerals.{add-one}
use native.Mathlib.Omega.{arith}
use mathlib.Core.Path.{◌≡◌, refl, sym, ap, ◌∙◌}
use mathlib.Core.Bool.{Bool, true, false, cond}
use mathlib.Core.List.{List, [], ◌∷◌}
use lib.Dec.{ltb, eqb}
use lib.ListN.{length, get_or, take, drop, length-drop, length-map}
use lib.Seq.{get_or-drop}
use borrow.Author.Tests.{ltb-true, ltb-false, eqb-true, ne_eqb, eq-eqb}
use Rattle.lists.specs.Lists.{Ordered}
use Rattle.lists.proofs.Bools.{cases}
use Rattle.lists.proofs.ListLaws.{ordered_at}
use Rattle.search.specs.Keys.{place_of, halved}
use Rattle.search.specs.Nearby.{place_near}
use Rattle.search.proofs.KeyLaws.{place_le, ordered_lt_place, ordered_halved}
use Rattle.search.proofs.NearbyLaws.{near_place}
use Rattle.edges.specs.Edges.{Edge, edge}
use Rattle.edges.specs.Listing.{firsts}
use Rattle.groups.specs.Groups.{edge_at}
use Rattle.groups.specs.CellEdges.{paired, edges_in}
use Rattle.groups.specs.Near.{scanned, number_from, number_by}
use Rattle.groups.proofs.CountingLaws.{edge_next, none_left}

-- ---- the search, where keys may be equal

-- at and past the place of a no key is below a
at_place : (a : ℕ) (ks : List ℕ) → Ordered ◌≤◌ ks → (i : ℕ) → place_of a ks ≤ i → i < length ks → a ≤ get_or ks i 0
at_place a ks o i h g =
    cases (λ (t : Bool). ltb (get_or ks i 0) a ≡ t → a ≤ get_or ks i 0) (ltb (get_or ks i 0) a)
    (λ t q. let l = ordered_lt_place a ks i o (ltb-true _ _ q) g in let un : ⊥ = omega arith in absurd un)
    (λ t q. ltb-false _ _ q) refl

-- ---- the loop: the edges from a place on say what all of them say

pub firsts_taken : (first second : List ℕ) (n : ℕ) → length second ≡ length first → firsts (edges_in first second n) ≡ take n first
unfolding paired
firsts_taken first second zero p = refl
firsts_taken [] second (suc n) p = refl
firsts_taken (a ∷ first) [] (suc n) p = absurd (suc-ne-zero _ (sym p))
firsts_taken (a ∷ first) (b ∷ second) (suc n) p = ap {B = List ℕ} (λ l. a ∷ l) (firsts_taken first second n (suc_inj p))

module _ (first second : List ℕ) (n a b : ℕ) (p : length second ≡ length first) where
  abbrev es : List Edge
  es = edges_in first second n

  number_started : number_by a b es ≡ number_from (halved a (take n first)) a b es
  unfolding number_by
  number_started = rw (firsts_taken first second n p)

  -- what is found from the place of a on
  pub number_found : (place : ℕ) → place ≡ halved a (take n first) → (r : Option ℕ) → r ≡ number_from place a b es → r ≡ number_by a b es
  number_found place q r e = e ∙ ap (λ (i : ℕ). number_from i a b es) q ∙ sym number_started

  -- where the first keys ascend, a search from near finds the same
  pub near_number : Ordered ◌≤◌ (take n first) → (near : ℕ) → number_from (place_near a (take n first) near) a b es ≡ number_by a b es
  near_number o near =
      number_found _ (near_place a (take n first) near o ∙ sym (ordered_halved a (take n first) o)) _ refl

  pub number_ended : (i : ℕ) → n ≤ i → None ≡ scanned i a b (drop i es)
  unfolding scanned
  number_ended i h = rw (none_left first second n i h)

  module _ (g : n ≤ length first) (i : ℕ) (h : i < n) where
    pub number_here : get_or first i 0 ≡ a → get_or second i 0 ≡ b → Some i ≡ scanned i a b (drop i es)
    unfolding scanned
    number_here q r = rw (edge_next first second n i p h g, eq-eqb (get_or first i 0) a q, eq-eqb (get_or second i 0) b r)

    pub number_next : get_or first i 0 ≡ a → (get_or second i 0 ≡ b → ⊥) → scanned i a b (drop i es) ≡ scanned (i + 1) a b (drop (i + 1) es)
    unfolding scanned
    number_next q r = rw (edge_next first second n i p h g, eq-eqb (get_or first i 0) a q, ne_eqb (get_or second i 0) b r, add-one i)

    pub number_gone : (get_or first i 0 ≡ a → ⊥) → None ≡ scanned i a b (drop i es)
    unfolding scanned
    number_gone r = rw (edge_next first second n i p h g, ne_eqb (get_or first i 0) a r)

-- ---- what is found

absent_at : (i : ℕ) → None ≡ Some i → ⊥
absent_at i e = let z : ◌≡◌ {A = ℕ} 0 1 = cc in omega arith

-- a number of an edge between a and b among edges from number n on
Among : ℕ → ℕ → ℕ → List Edge → ℕ → Type 0
Among n a b es i = (j : ℕ) × (i ≡ n + j) × (j < length es) × (edge_at es j ≡ edge a b)

scanned_sound : (n a b : ℕ) (es : List Edge) (i : ℕ) → scanned n a b es ≡ Some i → Among n a b es i
unfolding scanned Among
scanned_sound n a b [] i e = absurd (absent_at i e)
scanned_sound n a b (x ∷ es) i e = go (eqb x.first a) (eqb x.second b) refl refl (λ h. scanned_sound (suc n) a b es i h) e
  where
    go :
        (p q : Bool)
        → eqb x.first a ≡ p
        → eqb x.second b ≡ q
        → (scanned (suc n) a b es ≡ Some i → Among (suc n) a b es i)
        → cond p (cond q (Some n) (scanned (suc n) a b es)) None ≡ Some i
        → Among n a b (x ∷ es) i
    go true true h k rest f =
        let same : n ≡ i = cc in
        let one = eqb-true x.first a h in
        let two = eqb-true x.second b k in
        (0, omega arith, zero-lt-suc (length es), λ t. record { first = one t; second = two t })
    go true false h k rest f = let r = rest f in (suc r.0, omega (arith, r.1), omega (arith, r.2), r.3)
    go false q h k rest f = absurd (absent_at i f)

scanned_complete :
    (n a b : ℕ) (es : List Edge) (j : ℕ)
    → j < length es
    → edge_at es j ≡ edge a b
    → ((k : ℕ) → k ≤ j → (edge_at es k).first ≡ a)
    → (i : ℕ) × (scanned n a b es ≡ Some i)
unfolding scanned
scanned_complete n a b [] j l e h = absurd (not-suc-le-zero l)
scanned_complete n a b (x ∷ es) zero l e h =
    (n, rw (eq-eqb x.first a (ap (λ (y : Edge). y.first) e), eq-eqb x.second b (ap (λ (y : Edge). y.second) e)))
scanned_complete n a b (x ∷ es) (suc j) l e h =
    let r = scanned_complete (suc n) a b es j (le_of_suc-le-suc l) e (λ k m. h (suc k) (suc-le-suc m)) in
    cases (λ (q : Bool). (i : ℕ) × (cond (eqb x.first a) (cond q (Some n) (scanned (suc n) a b es)) None ≡ Some i)) (eqb x.second b)
    (λ q. (n, rw (eq-eqb x.first a (h 0 zero-le))))
    (λ q. (r.0, rw (eq-eqb x.first a (h 0 zero-le)) r.1))

module _ (a b : ℕ) (es : List Edge) where
  -- what is found is the number of the edge
  pub number_sound : (i : ℕ) → number_by a b es ≡ Some i → (i < length es) × (edge_at es i ≡ edge a b)
  unfolding number_by Among
  number_sound i e =
      let p = halved a (firsts es) in
      let r = scanned_sound p a b (drop p es) i e in
      let same : i ≡ p + r.0 = r.1 in
      let long : r.0 < length (drop p es) = r.2 in
      (omega (arith, length-drop p es), rw same (sym (get_or-drop p es r.0 (edge 0 0)) ∙ r.3))

  -- the first keys of an edge list, one by one
  first_at : (fs : List Edge) (k : ℕ) → k < length fs → get_or (firsts fs) k 0 ≡ (edge_at fs k).first
  first_at [] k m = absurd (not-suc-le-zero m)
  first_at (x ∷ fs) zero m = refl
  first_at (x ∷ fs) (suc k) m = first_at fs k (le_of_suc-le-suc m)

  -- from the place of a on, up to an edge that starts at a, all start there
  between : Ordered ◌≤◌ (firsts es) → (i : ℕ) → i < length es → (edge_at es i).first ≡ a → (k : ℕ) → place_of a (firsts es) ≤ k → k ≤ i
      → (edge_at es k).first ≡ a
  between o i l e k h g =
      let n : k < length es = omega arith in
      let m : k < length (firsts es) = rw (length-map es (λ (e : Edge). e.first)) n in
      let low : a ≤ get_or (firsts es) k 0 = at_place a (firsts es) o k h m in
      let here = first_at es k n in
      let there = first_at es i l in
      cases (λ (t : Bool). ltb k i ≡ t → (edge_at es k).first ≡ a) (ltb k i)
      (λ t q. let up = ordered_at ◌≤◌ (firsts es) 0 o k i (ltb-true k i q) (rw (length-map es (λ (e : Edge). e.first)) l) in omega arith)
      (λ t q. let same : k ≡ i = omega (arith, ltb-false k i q) in rw same e) refl

  -- and where the first keys ascend, an edge is found
  pub number_complete : Ordered ◌≤◌ (firsts es) → (i : ℕ) → i < length es → edge_at es i ≡ edge a b → (j : ℕ) × (number_by a b es ≡ Some j)
  unfolding number_by
  number_complete o i l e =
      let p = place_of a (firsts es) in
      let start : (edge_at es i).first ≡ a = ap (λ (y : Edge). y.first) e in
      let key : get_or (firsts es) i 0 ≡ a = first_at es i l ∙ start in
      let low : p ≤ i = place_le a (firsts es) i (omega arith) (rw (length-map es (λ (e : Edge). e.first)) l) in
      let at : (k : ℕ) → edge_at (drop p es) k ≡ edge_at es (p + k) = λ k. get_or-drop p es k (edge 0 0) in
      let step : p + (i - p) ≡ i = omega arith in
      rw (ordered_halved a (firsts es) o)
      (scanned_complete p a b (drop p es) (i - p) (rw (length-drop p es) (omega arith)) (at (i - p) ∙ rw step e)
      (λ k h. ap (λ (y : Edge). y.first) (at k) ∙ between o i l start (p + k) (omega arith) (omega arith)))
