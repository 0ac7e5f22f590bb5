-- The four corners of a tetrahedron, by their numbers.
-- Assumes nothing.
use Prim.Native.Nat.{ℕ, ◌<◌}
use native.Mathlib.Omega.{arith}
use mathlib.Core.Path.{◌≡◌, refl, sym, ap, ◌∙◌}
use mathlib.Core.Logic.{◌⊎◌, inl, inr, ⊎_elim}
use mathlib.Core.Bool.{Bool, true, false, not, ◌&&◌, ◌||◌, false≢true}
use mathlib.Core.List.Memᴰ
use mathlib.Core.List.{List, [], ◌∷◌}
use lib.Dec.{eqb}
use borrow.Author.Tests.{eq-eqb, ne_eqb, eqb-true, not-true}
use Rattle.lists.specs.Lists.{◌∈◌, Ordered}
use Rattle.lists.proofs.ListLaws.{one_order}
use Rattle.lists.proofs.Bools.{and_first, and_second, or_cases}
use Rattle.neighbors.specs.Neighbors.{adjacent}
use Rattle.neighbors.proofs.Adjacency.{adjacent_sym}
use Rattle.tetrahedra.specs.Fours.{Four, Corner, c0, c1, c2, c3, at, Rising, holds}
use Rattle.tetrahedra.proofs.Lattice.{Clique, CliqueOf}

-- ---- corners by their numbers

abbrev pub place : Corner → ℕ
place c0 = 0
place c1 = 1
place c2 = 2
place c3 = 3

-- the same corner
abbrev pub eqc : Corner → Corner → Bool
eqc i j = eqb (place i) (place j)

-- a test that passes at every corner
unfoldable pub every_corner : (Corner → Bool) → Bool
every_corner f = f c0 && (f c1 && (f c2 && f c3))

pub at_corner : (f : Corner → Bool) → every_corner f ≡ true → (c : Corner) → f c ≡ true
unfolding every_corner
at_corner f e c0 = and_first (f c0) _ e
at_corner f e c1 = and_first (f c1) _ (and_second (f c0) _ e)
at_corner f e c2 = and_first (f c2) _ (and_second (f c1) _ (and_second (f c0) _ e))
at_corner f e c3 = and_second (f c2) _ (and_second (f c1) _ (and_second (f c0) _ e))

-- and one that passes at both truth values
unfoldable pub every_bool : (Bool → Bool) → Bool
every_bool f = f true && f false

pub at_bool : (f : Bool → Bool) → every_bool f ≡ true → (b : Bool) → f b ≡ true
unfolding every_bool
at_bool f e true = and_first (f true) _ e
at_bool f e false = and_second (f true) _ e

-- a test that says: if p then q
pub if_then : (p q : Bool) → not p || q ≡ true → p ≡ true → q ≡ true
if_then true q e h = e
if_then false q e h = absurd (false≢true h)

-- ---- the keys at corners

-- a key that is held stands at a corner
pub holds_corner : (k : ℕ) (t : Four) → holds k t ≡ true → (c : Corner) × (at t c ≡ k)
unfolding holds
holds_corner k t e =
    ⊎_elim (λ p. (c0, eqb-true t.a k p))
    (λ r. ⊎_elim (λ p. (c1, eqb-true t.b k p))
    (λ s. ⊎_elim (λ p. (c2, eqb-true t.c k p)) (λ p. (c3, eqb-true t.d k p)) (or_cases (eqb t.c k) (eqb t.d k) s))
    (or_cases (eqb t.b k) _ r))
    (or_cases (eqb t.a k) _ e)

pub or_second_true : (a b : Bool) → b ≡ true → a || b ≡ true
or_second_true true b e = refl
or_second_true false b e = e

pub or_first_true : (a b : Bool) → a ≡ true → a || b ≡ true
or_first_true true b e = refl
or_first_true false b e = absurd (false≢true e)

pub corner_holds : (t : Four) (c : Corner) {k : ℕ} → at t c ≡ k → holds k t ≡ true
unfolding holds
corner_holds t c0 {k} e = or_first_true (eqb t.a k) _ (eq-eqb t.a k e)
corner_holds t c1 {k} e = or_second_true (eqb t.a k) _ (or_first_true (eqb t.b k) _ (eq-eqb t.b k e))
corner_holds t c2 {k} e = or_second_true (eqb t.a k) _ (or_second_true (eqb t.b k) _ (or_first_true (eqb t.c k) _ (eq-eqb t.c k e)))
corner_holds t c3 {k} e = or_second_true (eqb t.a k) _ (or_second_true (eqb t.b k) _ (or_second_true (eqb t.c k) _ (eq-eqb t.d k e)))

pub not_held : (k : ℕ) (t : Four) → holds k t ≡ false → (c : Corner) → at t c ≡ k → ⊥
not_held k t e c p = false≢true (sym e ∙ corner_holds t c p)

-- keys at corners differ as the corners do
module _ (t : Four) (up : Rising t) where
  ab : t.a < t.b
  ab = up.a_b

  bc : t.b < t.c
  bc = up.b_c

  cd : t.c < t.d
  cd = up.c_d

  pub at_eqb : (i j : Corner) → eqb (at t i) (at t j) ≡ eqc i j
  at_eqb c0 c0 = eq-eqb t.a t.a refl
  at_eqb c0 c1 = ne_eqb t.a t.b (λ e. omega (arith, ab, bc, cd))
  at_eqb c0 c2 = ne_eqb t.a t.c (λ e. omega (arith, ab, bc, cd))
  at_eqb c0 c3 = ne_eqb t.a t.d (λ e. omega (arith, ab, bc, cd))
  at_eqb c1 c0 = ne_eqb t.b t.a (λ e. omega (arith, ab, bc, cd))
  at_eqb c1 c1 = eq-eqb t.b t.b refl
  at_eqb c1 c2 = ne_eqb t.b t.c (λ e. omega (arith, ab, bc, cd))
  at_eqb c1 c3 = ne_eqb t.b t.d (λ e. omega (arith, ab, bc, cd))
  at_eqb c2 c0 = ne_eqb t.c t.a (λ e. omega (arith, ab, bc, cd))
  at_eqb c2 c1 = ne_eqb t.c t.b (λ e. omega (arith, ab, bc, cd))
  at_eqb c2 c2 = eq-eqb t.c t.c refl
  at_eqb c2 c3 = ne_eqb t.c t.d (λ e. omega (arith, ab, bc, cd))
  at_eqb c3 c0 = ne_eqb t.d t.a (λ e. omega (arith, ab, bc, cd))
  at_eqb c3 c1 = ne_eqb t.d t.b (λ e. omega (arith, ab, bc, cd))
  at_eqb c3 c2 = ne_eqb t.d t.c (λ e. omega (arith, ab, bc, cd))
  at_eqb c3 c3 = eq-eqb t.d t.d refl

  pub corners_differ : (i j : Corner) → (at t i ≡ at t j → ⊥) → eqc i j ≡ false
  corners_differ i j n = sym (at_eqb i j) ∙ ne_eqb (at t i) (at t j) n

  pub corners_same : (i j : Corner) → at t i ≡ at t j → eqc i j ≡ true
  corners_same i j e = sym (at_eqb i j) ∙ eq-eqb (at t i) (at t j) e

-- different corners are adjacent
pub corners_adjacent : (t : Four) → CliqueOf t → (i j : Corner) → eqc i j ≡ false → adjacent (at t i) (at t j) ≡ true
corners_adjacent t q c0 c0 e = absurd (false≢true (sym e))
corners_adjacent t q c0 c1 e = q.kl
corners_adjacent t q c0 c2 e = q.km
corners_adjacent t q c0 c3 e = q.kn
corners_adjacent t q c1 c0 e = adjacent_sym t.b t.a ∙ q.kl
corners_adjacent t q c1 c1 e = absurd (false≢true (sym e))
corners_adjacent t q c1 c2 e = q.lm
corners_adjacent t q c1 c3 e = q.ln
corners_adjacent t q c2 c0 e = adjacent_sym t.c t.a ∙ q.km
corners_adjacent t q c2 c1 e = adjacent_sym t.c t.b ∙ q.lm
corners_adjacent t q c2 c2 e = absurd (false≢true (sym e))
corners_adjacent t q c2 c3 e = q.mn
corners_adjacent t q c3 c0 e = adjacent_sym t.d t.a ∙ q.kn
corners_adjacent t q c3 c1 e = adjacent_sym t.d t.b ∙ q.ln
corners_adjacent t q c3 c2 e = adjacent_sym t.d t.c ∙ q.mn
corners_adjacent t q c3 c3 e = absurd (false≢true (sym e))

-- ---- four keys ascending are known by who stands among them

keys : Four → List ℕ
keys t = t.a ∷ t.b ∷ t.c ∷ t.d ∷ []

keys_rising : (t : Four) → Rising t → Ordered ◌<◌ (keys t)
unfolding keys Ordered
keys_rising t up =
    (last3, (last2, (last1, (λ y m. absurd (Memᴰ.not-nil m), tt))))
  where
    last1 : (y : ℕ) → y ∈ (t.d ∷ []) → t.c < y
    last1 y m = ⊎_elim (λ e. omega (arith, up.c_d)) (λ n. absurd (Memᴰ.not-nil n)) (Memᴰ.cases_cons m)

    last2 : (y : ℕ) → y ∈ (t.c ∷ t.d ∷ []) → t.b < y
    last2 y m = ⊎_elim (λ e. omega (arith, up.b_c)) (λ n. omega (arith, last1 y n, up.b_c)) (Memᴰ.cases_cons m)

    last3 : (y : ℕ) → y ∈ (t.b ∷ t.c ∷ t.d ∷ []) → t.a < y
    last3 y m = ⊎_elim (λ e. omega (arith, up.a_b)) (λ n. omega (arith, last2 y n, up.a_b)) (Memᴰ.cases_cons m)

key_at : (t : Four) (c : Corner) → at t c ∈ keys t
unfolding keys
key_at t c0 = Memᴰ.head refl
key_at t c1 = Memᴰ.tail (Memᴰ.head refl)
key_at t c2 = Memᴰ.tail (Memᴰ.tail (Memᴰ.head refl))
key_at t c3 = Memᴰ.tail (Memᴰ.tail (Memᴰ.tail (Memᴰ.head refl)))

at_key : (t : Four) (k : ℕ) → k ∈ keys t → (c : Corner) × (at t c ≡ k)
unfolding keys
at_key t k m =
    ⊎_elim (λ e. (c0, sym e))
    (λ n. ⊎_elim (λ e. (c1, sym e))
    (λ o. ⊎_elim (λ e. (c2, sym e))
    (λ p. ⊎_elim (λ e. (c3, sym e)) (λ q. absurd (Memᴰ.not-nil q)) (Memᴰ.cases_cons p))
    (Memᴰ.cases_cons o)) (Memᴰ.cases_cons n)) (Memᴰ.cases_cons m)

same_keys : (t u : Four) → keys t ≡ keys u → t ≡ u
unfolding keys
same_keys t u e =
    let a : t.a ≡ u.a = cc in
    let b : t.b ≡ u.b = cc in
    let c : t.c ≡ u.c = cc in
    let d : t.d ≡ u.d = cc in
    λ i. record { a = a i; b = b i; c = c i; d = d i }

pub same_four : (t u : Four) → Rising t → Rising u → ((c : Corner) → holds (at t c) u ≡ true) → ((c : Corner) → holds (at u c) t ≡ true) → t ≡ u
same_four t u tup uup to from =
    same_keys t u
    (one_order ◌<◌ (λ x y l m. omega arith) (keys t) (keys u) (keys_rising t tup) (keys_rising u uup) (into t u to) (into u t from))
  where
    into : (x y : Four) → ((c : Corner) → holds (at x c) y ≡ true) → (k : ℕ) → k ∈ keys x → k ∈ keys y
    into x y h k m =
        let p = at_key x k m in
        let q = holds_corner (at x p.0) y (h p.0) in
        Memᴰ.cast (sym p.1 ∙ sym q.1) (key_at y q.0)

-- ---- the corner that is left

unfoldable pub pick : Bool → Corner → Corner → Corner
pick true c d = c
pick false c d = d

unfoldable pub free : Corner → Corner → Corner → Corner → Bool
free i j k c = not (eqc i c) && (not (eqc j c) && not (eqc k c))

unfoldable pub other : Corner → Corner → Corner → Corner
unfolding pick free
other i j k = pick (free i j k c0) c0 (pick (free i j k c1) c1 (pick (free i j k c2) c2 c3))

-- three that differ, as a test
unfoldable pub apart3 : Corner → Corner → Corner → Bool
apart3 i j k = not (eqc i j) && (not (eqc i k) && not (eqc j k))

unfoldable pub other_test : Corner → Corner → Corner → Bool
other_test i j k = not (apart3 i j k) || free i j k (other i j k)

unfoldable pub all_test : Corner → Corner → Corner → Corner → Bool
all_test i j k c = not (apart3 i j k) || (eqc c i || (eqc c j || (eqc c k || eqc c (other i j k))))

pub other_tests : every_corner (λ i. every_corner (λ j. every_corner (λ k. other_test i j k))) ≡ true
unfolding every_corner other_test apart3 free other pick
other_tests = refl

pub all_tests : every_corner (λ i. every_corner (λ j. every_corner (λ k. every_corner (λ c. all_test i j k c)))) ≡ true
unfolding every_corner all_test apart3 free other pick
all_tests = refl

pub corner_eq : (i j : Corner) → eqc i j ≡ true → i ≡ j
corner_eq c0 c0 e = refl
corner_eq c0 c1 e = absurd (false≢true e)
corner_eq c0 c2 e = absurd (false≢true e)
corner_eq c0 c3 e = absurd (false≢true e)
corner_eq c1 c0 e = absurd (false≢true e)
corner_eq c1 c1 e = refl
corner_eq c1 c2 e = absurd (false≢true e)
corner_eq c1 c3 e = absurd (false≢true e)
corner_eq c2 c0 e = absurd (false≢true e)
corner_eq c2 c1 e = absurd (false≢true e)
corner_eq c2 c2 e = refl
corner_eq c2 c3 e = absurd (false≢true e)
corner_eq c3 c0 e = absurd (false≢true e)
corner_eq c3 c1 e = absurd (false≢true e)
corner_eq c3 c2 e = absurd (false≢true e)
corner_eq c3 c3 e = refl

-- three keys of a tetrahedron, and its fourth
pub record Fourth (t : Four) (p q r u : ℕ) : Type 0 where
  pub clique : Clique p q r u
  pub p_held : holds p t ≡ true
  pub q_held : holds q t ≡ true
  pub r_held : holds r t ≡ true
  pub u_held : holds u t ≡ true
  pub only : (c : Corner) → (at t c ≡ p) ⊎ ((at t c ≡ q) ⊎ ((at t c ≡ r) ⊎ (at t c ≡ u)))

pub fourth :
    (t : Four)
    → Rising t
    → CliqueOf t
    → (p q r : ℕ)
    → holds p t ≡ true
    → holds q t ≡ true
    → holds r t ≡ true
    → (p ≡ q → ⊥)
    → (p ≡ r → ⊥)
    → (q ≡ r → ⊥)
    → (u : ℕ) × Fourth t p q r u
unfolding other_test all_test apart3 free
fourth t up cl p q r hp hq hr pq pr qr =
    let i = holds_corner p t hp in
    let j = holds_corner q t hq in
    let k = holds_corner r t hr in
    let ci : Corner = i.0 in
    let cj : Corner = j.0 in
    let ck : Corner = k.0 in
    let o : Corner = other ci cj ck in
    let ij : eqc ci cj ≡ false = corners_differ t up ci cj (λ e. pq (sym i.1 ∙ e ∙ j.1)) in
    let ik : eqc ci ck ≡ false = corners_differ t up ci ck (λ e. pr (sym i.1 ∙ e ∙ k.1)) in
    let jk : eqc cj ck ≡ false = corners_differ t up cj ck (λ e. qr (sym j.1 ∙ e ∙ k.1)) in
    let three : apart3 ci cj ck ≡ true = rw (ij, ik, jk) in
    let f : free ci cj ck o ≡ true =
    if_then (apart3 ci cj ck) (free ci cj ck o)
    (at_corner (λ k. other_test ci cj k)
    (at_corner (λ j. every_corner (λ k. other_test ci j k))
    (at_corner (λ i. every_corner (λ j. every_corner (λ k. other_test i j k))) other_tests ci) cj) ck) three in
    let io : eqc ci o ≡ false = not-true (eqc ci o) (and_first (not (eqc ci o)) (not (eqc cj o) && not (eqc ck o)) f) in
    let g = and_second (not (eqc ci o)) (not (eqc cj o) && not (eqc ck o)) f in
    let jo : eqc cj o ≡ false = not-true (eqc cj o) (and_first (not (eqc cj o)) (not (eqc ck o)) g) in
    let ko : eqc ck o ≡ false = not-true (eqc ck o) (and_second (not (eqc cj o)) (not (eqc ck o)) g) in
    let adj : (x y : Corner) (m n : ℕ) → at t x ≡ m → at t y ≡ n → eqc x y ≡ false → adjacent m n ≡ true =
    λ x y m n ex ey d. rw (← ex, ← ey) (corners_adjacent t cl x y d) in
    let every : (c : Corner) → (eqc c ci || (eqc c cj || (eqc c ck || eqc c o))) ≡ true =
    λ c. if_then (apart3 ci cj ck) (eqc c ci || (eqc c cj || (eqc c ck || eqc c o)))
    (at_corner (λ c. all_test ci cj ck c)
    (at_corner (λ k. every_corner (λ c. all_test ci cj k c))
    (at_corner (λ j. every_corner (λ k. every_corner (λ c. all_test ci j k c)))
    (at_corner (λ i. every_corner (λ j. every_corner (λ k. every_corner (λ c. all_test i j k c)))) all_tests ci) cj) ck) c) three in
    let to : (c d : Corner) (m : ℕ) → at t d ≡ m → eqc c d ≡ true → at t c ≡ m = λ c d m e s. ap (at t) (corner_eq c d s) ∙ e in (
      at t o,
      record {
        clique = record {
          kl = adj ci cj p q i.1 j.1 ij;
          km = adj ci ck p r i.1 k.1 ik;
          kn = adj ci o p (at t o) i.1 refl io;
          lm = adj cj ck q r j.1 k.1 jk;
          ln = adj cj o q (at t o) j.1 refl jo;
          mn = adj ck o r (at t o) k.1 refl ko;
        };
        p_held = hp;
        q_held = hq;
        r_held = hr;
        u_held = corner_holds t o refl;
        only = λ c.
            ⊎_elim (λ s. inl (to c ci p i.1 s))
            (λ x. ⊎_elim (λ s. inr (inl (to c cj q j.1 s)))
            (λ y. ⊎_elim (λ s. inr (inr (inl (to c ck r k.1 s)))) (λ s. inr (inr (inr (to c o (at t o) refl s)))) (or_cases (eqc c ck) (eqc c o) y))
            (or_cases (eqc c cj) _ x)) (or_cases (eqc c ci) _ (every c));
      },
    )

-- two with the same three and the same fourth are the same
pub same_fourth : (t x : Four) (p q r u : ℕ) → Rising t → Rising x → Fourth t p q r u → Fourth x p q r u → t ≡ x
same_fourth t x p q r u tup xup f g = same_four t x tup xup (into t x f g) (into x t g f)
  where
    into : (y z : Four) → Fourth y p q r u → Fourth z p q r u → (c : Corner) → holds (at y c) z ≡ true
    into y z a b c =
        ⊎_elim (λ e. rw e b.p_held)
        (λ n. ⊎_elim (λ e. rw e b.q_held) (λ o. ⊎_elim (λ e. rw e b.r_held) (λ e. rw e b.u_held) o) n) (a.only c)

-- ---- a corner beside two

beside_test : Corner → Corner → Bool
beside_test i j = eqc i j || (not (eqc i (other i j j)) && not (eqc j (other i j j)))

beside_tests : every_corner (λ i. every_corner (λ j. beside_test i j)) ≡ true
unfolding every_corner beside_test free other pick
beside_tests = refl

pub beside_two : (i j : Corner) → eqc i j ≡ false → (eqc i (other i j j) ≡ false) × (eqc j (other i j j) ≡ false)
unfolding beside_test
beside_two i j e =
    let o : Corner = other i j j in
    let t : (not (eqc i o) && not (eqc j o)) ≡ true =
    ⊎_elim (λ p. absurd (false≢true (sym e ∙ p))) (λ p. p)
    (or_cases (eqc i j) (not (eqc i o) && not (eqc j o))
    (at_corner (λ j. beside_test i j) (at_corner (λ i. every_corner (λ j. beside_test i j)) beside_tests i) j)) in
    (not-true (eqc i o) (and_first (not (eqc i o)) (not (eqc j o)) t), not-true (eqc j o) (and_second (not (eqc i o)) (not (eqc j o)) t))
