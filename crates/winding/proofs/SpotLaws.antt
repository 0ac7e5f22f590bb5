-- On which side of three points a fourth lies: moved alike, turned, seen in a mirror; and of the middles of a tetrahedron's edges by its handedness.
-- Assumes nothing.
use Prim.Native.Nat.{ℕ, ◌+◌, ◌*◌, ◌/◌, ◌<◌, ◌≤◌}
use native.Mathlib.Nat.{mul-le-mul}
use native.Mathlib.Omega.{arith}
use mathlib.Core.Path.{◌≡◌, refl, sym, ap, ap₂, ◌∙◌}
use mathlib.Core.Logic.{inl, inr}
use mathlib.Core.Bool.{Bool, true, false, not, false≢true}
use lib.Dec.{ltb}
use borrow.Author.Tests.{lt-ltb, le-ltb, ltb-true}
use Rattle.ids.proofs.KeyLaws.{coord_small}
use Rattle.winding.specs.declared.Spot.{Spot}
use Rattle.winding.specs.Spots.{both, halfway, triple, plus_terms, in_front, points_from_to}
use Rattle.winding.specs.Steps.{Small}
use Rattle.winding.proofs.Volume.{terms, first_terms, tri, cycle, Far}

-- ---- for a program

pub product_small : (x y z : ℕ) → x ≤ 131070 → y ≤ 131070 → z ≤ 131070 → x * (y * z) ≤ 2_251_696_736_043_000
product_small x y z a b c =
    let h : x * (y * z) ≤ 131070 * (131070 * 131070) = mul-le-mul a (mul-le-mul b c) in
    h

pub square_small : (y z : ℕ) → y ≤ 131070 → z ≤ 131070 → y * z ≤ 17_179_344_900
square_small y z b c =
    let h : y * z ≤ 131070 * 131070 = mul-le-mul b c in
    h

three_small : (l m n s : ℕ) → l ≤ s → m ≤ s → n ≤ s → l + (m + n) ≤ s + (s + s)
three_small l m n s a b c = omega arith

triple_small : (a b c : Spot) → Small a → Small b → Small c → triple a b c ≤ 6_755_090_208_129_000
unfolding triple
triple_small a b c p q r =
    three_small _ _ _ 2_251_696_736_043_000 (product_small _ _ _ p.x q.y r.z) (product_small _ _ _ q.x r.y p.z)
    (product_small _ _ _ r.x p.y q.z)

-- Both sums are below 2 ^ 55: 64 bits hold them.
pub plus_small : (a b c p : Spot) → Small a → Small b → Small c → Small p → plus_terms a b c p < 36_028_797_018_963_968
unfolding plus_terms
plus_small a b c p sa sb sc sp =
    omega (arith, triple_small b c p sb sc sp, triple_small a p c sa sp sc, triple_small a b p sa sb sp, triple_small a c b sa sc sb)

pub halfway_small : (k l : ℕ) → Small (halfway k l)
halfway_small k l =
    record {
      x = omega (arith, coord_small k, coord_small l);
      y = omega (arith, coord_small (k / 2), coord_small (l / 2));
      z = omega (arith, coord_small (k / 4), coord_small (l / 4));
    }

pub by_terms :
    {a b c p a' b' c' p' : Spot} {m n : ℕ}
    → a' ≡ a
    → b' ≡ b
    → c' ≡ c
    → p' ≡ p
    → m ≡ plus_terms b' a' c' p'
    → n ≡ plus_terms a' b' c' p'
    → ltb m n ≡ in_front a b c p
unfolding in_front
by_terms ea eb ec ep em en = rw (← ea, ← eb, ← ec, ← ep, em, en)

-- ---- a sum of points in one place

add_first : (a a' b c : Spot) → triple (both a a') b c ≡ triple a b c + triple a' b c
unfolding triple
add_first a a' b c = omega arith

around : (a b c : Spot) → triple b c a ≡ triple a b c
unfolding triple tri
around a b c = cycle (λ (s : Spot). s.x) (λ s. s.y) (λ s. s.z) a b c

add_second : (a b b' c : Spot) → triple a (both b b') c ≡ triple a b c + triple a b' c
add_second a b b' c = omega (arith, around a (both b b') c, add_first b b' c a, around a b c, around a b' c)

add_third : (a b c c' : Spot) → triple a b (both c c') ≡ triple a b c + triple a b c'
add_third a b c c' = omega (arith, around (both c c') a b, add_first c c' a b, around c a b, around c' a b)

four_terms : (a b b' c c' : Spot) → triple a (both b b') (both c c') ≡ (triple a b c + triple a b c') + (triple a b' c + triple a b' c')
four_terms a b b' c c' = omega (arith, add_second a b b' (both c c'), add_third a b c c', add_third a b' c c')

eight_terms :
    (a a' b b' c c' : Spot)
    → triple (both a a') (both b b') (both c c')
    ≡ ((triple a b c + triple a b c') + (triple a b' c + triple a b' c')) + ((triple a' b c + triple a' b c') + (triple a' b' c + triple a' b' c'))
eight_terms a a' b b' c c' = omega (arith, add_first a a' (both b b') (both c c'), four_terms a b b' c c', four_terms a' b b' c c')

-- ---- over any T that is the same turned round, the points kept shut

module _ {P : Type 0} (T : P → P → P → ℕ) (round : (a b c : P) → T b c a ≡ T a b c) where
  abbrev own : P → P → P → P → ℕ
  own a b c p = terms T round a b c p

  -- two points on either side of the first
  terms_mirrored :
      (a b c k l : P)
      → ((m n : P) → T m n k + T m n l ≡ T m n a + T m n a)
      → own a b c k + own a b c l ≡ own b a c k + own b a c l
  terms_mirrored a b c k l s =
      omega (
        arith,
        s b c,
        s c b,
        s a b,
        s b a,
        s c a,
        s a c,
        round c a k,
        round c a l,
        round c b k,
        round c b l,
        round a c b,
        round a c a,
        round c a a,
        round b a a,
        round a b a,
      )

  -- the middles of the edges of four points
  module _ (add : P → P → P)
      (eight : (a a' b b' c c' : P) → T (add a a') (add b b') (add c c')
      ≡ ((T a b c + T a b c') + (T a b' c + T a b' c')) + ((T a' b c + T a' b c') + (T a' b' c + T a' b' c'))) where
    -- of one point against three others
    terms_alone : (p x y z : P) → own (add p x) (add p y) (add p z) (add p p) + own p x y z ≡ own (add p y) (add p x) (add p z) (add p p) + own x p y z
    terms_alone p x y z =
        omega (
          arith,
          eight p y p z p p,
          eight p x p p p z,
          eight p x p y p p,
          eight p x p z p y,
          eight p x p z p p,
          eight p y p p p z,
          eight p y p x p p,
          eight p y p z p x,
          round p x y,
          round x y p,
          round p x z,
          round x z p,
          round p y x,
          round y x p,
          round p y z,
          round y z p,
          round p z x,
          round z x p,
          round p z y,
          round z y p,
          round x y z,
          round y x z,
          round p p x,
          round p x p,
          round p p y,
          round p y p,
          round p p z,
          round p z p,
        )

    -- of two points against two others, both triangles
    terms_first : (p q r s : P) → own (add p r) (add p s) (add q s) (add p p) + own p q r s ≡ own (add p s) (add p r) (add q s) (add p p) + own q p r s
    terms_first p q r s =
        omega (
          arith,
          eight p s q s p p,
          eight p r p p q s,
          eight p r p s p p,
          eight p r q s p s,
          eight p r q s p p,
          eight p s p p q s,
          eight p s p r p p,
          eight p s q s p r,
          round p p q,
          round p r p,
          round p p s,
          round p s p,
          round p q r,
          round q r p,
          round s p q,
          round p r q,
          round p r s,
          round s q p,
          round p s r,
          round s r p,
          round p s s,
          round s s p,
          round s q r,
          round r q s,
          round r s s,
        )

    terms_second : (p q r s : P) → own (add p r) (add q s) (add q r) (add p p) + own p q r s ≡ own (add q s) (add p r) (add q r) (add p p) + own q p r s
    terms_second p q r s =
        omega (
          arith,
          eight q s q r p p,
          eight p r p p q r,
          eight p r q s p p,
          eight p r q r q s,
          eight p r q r p p,
          eight q s p p q r,
          eight q s p r p p,
          eight q s q r p r,
          round p p q,
          round p q p,
          round p p r,
          round p s p,
          round p q q,
          round q q p,
          round q r p,
          round s p q,
          round p r q,
          round r q p,
          round r r p,
          round p r s,
          round r s p,
          round s q p,
          round p s r,
          round r q q,
          round q r r,
          round s q r,
          round r q s,
          round s r r,
        )

-- ---- a point 4 in front of three others, or 4 behind them

terms_of : (a b c p : Spot) → terms triple around a b c p ≡ plus_terms a b c p
unfolding plus_terms
terms_of a b c p = refl

-- e is 4 above o, or 4 below it
abbrev StandsBy : Bool → ℕ → ℕ → Type 0
StandsBy true e o = e ≡ o + 4
StandsBy false e o = o ≡ e + 4

abbrev pub Stands : Bool → Spot → Spot → Spot → Spot → Type 0
Stands s a b c p = StandsBy s (plus_terms a b c p) (plus_terms b a c p)

sums_same : {e o e' o' : ℕ} → e ≡ o + 4 → e' ≡ e → o' ≡ o → e' ≡ o' + 4
sums_same h p q = omega arith

balanced : (e o e' o' : ℕ) → e ≡ o + 4 → e + e' ≡ o + o' → o' ≡ e' + 4
balanced e o e' o' h q = omega arith

pub in_front_lem : (s : Bool) (a b c p : Spot) → Stands s a b c p → in_front a b c p ≡ s
unfolding in_front
in_front_lem true a b c p e = lt-ltb (plus_terms b a c p) (plus_terms a b c p) (omega arith)
in_front_lem false a b c p e = le-ltb (plus_terms b a c p) (plus_terms a b c p) (omega arith)

-- the three points named from the second on
named_round : (a b c p : Spot) → plus_terms b c a p ≡ plus_terms a b c p
named_round a b c p = sym (terms_of b c a p) ∙ first_terms triple around a b c p ∙ terms_of a b c p

pub from_second : (s : Bool) (a b c p : Spot) → Stands s a b c p → Stands s b c a p
from_second true a b c p e = sums_same e (named_round a b c p) (named_round a c b p ∙ named_round b a c p)
from_second false a b c p e = sums_same e (named_round a c b p ∙ named_round b a c p) (named_round a b c p)

-- and with the last two exchanged
pub turned_about : (s : Bool) (a b c p : Spot) → Stands s a b c p → Stands (not s) a c b p
turned_about true a b c p e = sums_same e (named_round b c a p ∙ named_round a b c p) (named_round b a c p)
turned_about false a b c p e = sums_same e (named_round b a c p) (named_round b c a p ∙ named_round a b c p)

-- one point behind and another in front: the normal points from the one to the other
sums_across : (e o e' o' x y : ℕ) → x ≡ e → y ≡ o → x < y → o' < e' → o' + e < e' + o
sums_across e o e' o' x y p q h g = omega arith

pub points_across : (a b c p q : Spot) → in_front a c b p ≡ true → in_front a b c q ≡ true → points_from_to a b c p q ≡ true
unfolding in_front points_from_to
points_across a b c p q behind before =
    lt-ltb (plus_terms b a c q + plus_terms a b c p) (plus_terms a b c q + plus_terms b a c p)
    (sums_across (plus_terms a b c p) (plus_terms b a c p) (plus_terms a b c q) (plus_terms b a c q) (plus_terms c a b p) (plus_terms a c b p)
    (named_round b c a p ∙ named_round a b c p) (named_round b a c p) (ltb-true (plus_terms c a b p) (plus_terms a c b p) behind)
    (ltb-true (plus_terms b a c q) (plus_terms a b c q) before))

-- seen in the mirror of the first, of the second and of the third
pub mirrored_first : (s : Bool) (a b c k l : Spot) → both k l ≡ both a a → Stands s a b c k → Stands (not s) a b c l
mirrored_first s a b c k l e h = go s h
  where
    each : (m n : Spot) → triple m n k + triple m n l ≡ triple m n a + triple m n a
    each m n = sym (add_third m n k l) ∙ ap (triple m n) e ∙ add_third m n a a

    whole : plus_terms a b c k + plus_terms a b c l ≡ plus_terms b a c k + plus_terms b a c l
    whole =
        sym (ap₂ ◌+◌ (terms_of a b c k) (terms_of a b c l)) ∙ terms_mirrored triple around a b c k l each
        ∙ ap₂ ◌+◌ (terms_of b a c k) (terms_of b a c l)

    go : (s : Bool) → Stands s a b c k → Stands (not s) a b c l
    go true h = balanced _ _ _ _ h whole
    go false h = balanced _ _ _ _ h (sym whole)

pub mirrored_second : (s : Bool) (a b c k l : Spot) → both k l ≡ both b b → Stands s a b c k → Stands (not s) a b c l
mirrored_second s a b c k l e h =
    from_second (not s) c a b l (from_second (not s) b c a l (mirrored_first s b c a k l e (from_second s a b c k h)))

pub mirrored_third : (s : Bool) (a b c k l : Spot) → both k l ≡ both c c → Stands s a b c k → Stands (not s) a b c l
mirrored_third s a b c k l e h =
    from_second (not s) c a b l (mirrored_first s c a b k l e (from_second s b c a k (from_second s a b c k h)))

-- ---- where the corners of a tetrahedron stand

-- by the handedness of the four: where they are left-handed, the first stands in front
by_hand : (e o m n : ℕ) → Far m n → e + m ≡ o + n → (s : Bool) → s ≡ ltb m n → StandsBy s e o
by_hand e o m n (inl f) q true l = absurd (false≢true (sym (le-ltb m n (omega arith)) ∙ sym l))
by_hand e o m n (inl f) q false l = omega arith
by_hand e o m n (inr f) q true l = omega arith
by_hand e o m n (inr f) q false l = absurd (false≢true (l ∙ lt-ltb m n (omega arith)))

module _ (p q r s : Spot) (far : Far (plus_terms p q r s) (plus_terms q p r s)) where
  abbrev left : Bool
  left = ltb (plus_terms p q r s) (plus_terms q p r s)

  -- p against three others
  pub alone_stands : Stands left (both p q) (both p r) (both p s) (both p p)
  alone_stands =
      by_hand _ _ _ _ far
      (ap₂ ◌+◌ (sym (terms_of (both p q) (both p r) (both p s) (both p p))) (sym (terms_of p q r s))
      ∙ terms_alone triple around both eight_terms p q r s
      ∙ ap₂ ◌+◌ (terms_of (both p r) (both p q) (both p s) (both p p)) (terms_of q p r s)) left refl

  -- p and q against r and s
  pub first_stands : Stands left (both p r) (both p s) (both q s) (both p p)
  first_stands =
      by_hand _ _ _ _ far
      (ap₂ ◌+◌ (sym (terms_of (both p r) (both p s) (both q s) (both p p))) (sym (terms_of p q r s))
      ∙ terms_first triple around both eight_terms p q r s
      ∙ ap₂ ◌+◌ (terms_of (both p s) (both p r) (both q s) (both p p)) (terms_of q p r s)) left refl

  pub second_stands : Stands left (both p r) (both q s) (both q r) (both p p)
  second_stands =
      by_hand _ _ _ _ far
      (ap₂ ◌+◌ (sym (terms_of (both p r) (both q s) (both q r) (both p p))) (sym (terms_of p q r s))
      ∙ terms_second triple around both eight_terms p q r s
      ∙ ap₂ ◌+◌ (terms_of (both q s) (both p r) (both q r) (both p p)) (terms_of q p r s)) left refl
