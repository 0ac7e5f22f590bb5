-- Within one tetrahedron: to how many of its triangles two crossed edges belong. One test over the signs of four corners and all pairs of them.
-- Assumes nothing.
use Prim.Native.Nat.{ℕ, ◌+◌}
use native.Mathlib.Omega.{arith}
use mathlib.Core.Path.{◌≡◌, refl, ap, ◌∙◌, subst, fun_ext}
use mathlib.Core.Logic.{⊎_elim}
use mathlib.Core.Bool.{Bool, true, false, not, cond, ◌&&◌, ◌||◌, and-false, or_comm}
use mathlib.Core.List.{List, [], ◌∷◌}
use lib.Dec.{eqb, leb}
use lib.Ieee.{unlike}
use lib.ListN.{length}
use borrow.Author.Tests.{eqb-true}
use Rattle.groups.specs.Groups.{one}
use Rattle.lists.specs.Lists.{kept}
use Rattle.lists.proofs.Bools.{or_cases, or_swap}
use Rattle.lists.specs.Threes.{Three, three}
use Rattle.tetrahedra.specs.Fours.{Corner, c0, c1, c2, c3, corners}
use Rattle.tetrahedra.specs.ClosedTriangles.{rising, nth, alone, halves, cut, cut_by}
use Rattle.tetrahedra.specs.Closing.{names, has_side}
use Rattle.tetrahedra.proofs.Corners.{eqc, every_corner, at_corner, every_bool, at_bool, if_then}
use Rattle.tetrahedra.proofs.Counting.{length_front}

-- ---- counting by tests of pairs of corners

abbrev pub Pairs : Type 0
Pairs = Corner → Corner → Bool

-- p on its own against three
abbrev hit_alone : Pairs → Corner → List Corner → Bool
hit_alone b p cs = b p (nth cs 0) || (b p (nth cs 1) || b p (nth cs 2))

abbrev hit_first : Pairs → Corner → Corner → Corner → Corner → Bool
hit_first b p q r s = b p r || (b p s || b q s)

abbrev hit_second : Pairs → Corner → Corner → Corner → Corner → Bool
hit_second b p q r s = b p r || (b q s || b q r)

unfoldable pub counts : Pairs → Pairs → List Corner → List Corner → ℕ
counts b c ins outs =
    cond (eqb (length ins) 1) (one (hit_alone b (nth ins 0) outs && hit_alone c (nth ins 0) outs))
    (cond (eqb (length ins) 2)
    (one (hit_first b (nth ins 0) (nth ins 1) (nth outs 0) (nth outs 1) && hit_first c (nth ins 0) (nth ins 1) (nth outs 0) (nth outs 1))
    + one (hit_second b (nth ins 0) (nth ins 1) (nth outs 0) (nth outs 1) && hit_second c (nth ins 0) (nth ins 1) (nth outs 0) (nth outs 1)))
    (cond (eqb (length ins) 3) (one (hit_alone b (nth outs 0) ins && hit_alone c (nth outs 0) ins)) 0))

-- the order in which a triangle names its vertices does not matter
or_last : (a b c : Bool) → a || (c || b) ≡ a || (b || c)
or_last a b c = ap (λ x. a || x) (or_comm c b)

pub names_rising : (u x y z : ℕ) → names u (rising x y z) ≡ eqb x u || (eqb y u || eqb z u)
unfolding names rising
names_rising u x y z = go (leb x y) (leb y z) (leb x z)
  where
    a : Bool
    a = eqb x u

    b : Bool
    b = eqb y u

    c : Bool
    c = eqb z u

    go :
        (p q r : Bool)
        → names u (cond p (cond q (three x y z) (cond r (three x z y) (three z x y))) (cond r (three y x z) (cond q (three y z x) (three z y x))))
        ≡ eqb x u || (eqb y u || eqb z u)
    go true true r = refl
    go true false true = or_last a b c
    go true false false = or_swap c a b ∙ or_last a b c
    go false q true = or_swap b a c
    go false true false = or_last b a c ∙ or_swap b a c
    go false false false = or_swap c b a ∙ or_last b a c ∙ or_swap b a c

module _ (f : Three ℕ → Bool) where
  pub kept_cond : (b : Bool) (l m : List (Three ℕ)) → length (kept f (cond b l m)) ≡ cond b (length (kept f l)) (length (kept f m))
  kept_cond true l m = refl
  kept_cond false l m = refl

  pub kept_one : (x : Three ℕ) → length (kept f (x ∷ [])) ≡ one (f x)
  unfolding kept
  kept_one x = omega (arith, length_front (f x) x [])

  pub kept_two : (x y : Three ℕ) → length (kept f (x ∷ y ∷ [])) ≡ one (f x) + one (f y)
  unfolding kept
  kept_two x y = omega (arith, length_front (f x) x (cond (f y) (y ∷ []) []), length_front (f y) y [])

  pub kept_none : length (kept f []) ≡ 0
  unfolding kept
  kept_none = refl

pub cond_eq : (b : Bool) {x y x' y' : ℕ} → x ≡ x' → y ≡ y' → cond b x y ≡ cond b x' y'
cond_eq true p q = p
cond_eq false p q = q

module _ (vertex : Corner → Corner → ℕ) (u v : ℕ) where
  -- the pairs of corners whose vertex is u
  abbrev pub pairs_at : ℕ → Corner → Corner → Bool
  pairs_at w i j = eqb (vertex i j) w

  side_alone : (p : Corner) (cs : List Corner)
      → length (kept (has_side u v) (alone vertex p cs)) ≡ one (hit_alone (pairs_at u) p cs && hit_alone (pairs_at v) p cs)
  unfolding has_side
  side_alone p cs =
      kept_one (has_side u v) (rising (vertex p (nth cs 0)) (vertex p (nth cs 1)) (vertex p (nth cs 2)))
      ∙ rw (
        names_rising u (vertex p (nth cs 0)) (vertex p (nth cs 1)) (vertex p (nth cs 2)),
        names_rising v (vertex p (nth cs 0)) (vertex p (nth cs 1)) (vertex p (nth cs 2)),
      )

  side_halves :
      (p q r s : Corner)
      → length (kept (has_side u v) (halves vertex p q r s))
      ≡ one (hit_first (pairs_at u) p q r s && hit_first (pairs_at v) p q r s) + one (hit_second (pairs_at u) p q r s && hit_second (pairs_at v) p q r s)
  unfolding has_side names
  side_halves p q r s =
      kept_two (has_side u v) (three (vertex p r) (vertex p s) (vertex q s)) (three (vertex p r) (vertex q s) (vertex q r))

  -- how many triangles of a cut have the side u, v
  side_cut : (ins outs : List Corner) → length (kept (has_side u v) (cut vertex ins outs)) ≡ counts (pairs_at u) (pairs_at v) ins outs
  unfolding cut counts
  side_cut ins outs =
      kept_cond (has_side u v) (eqb (length ins) 1) (alone vertex (nth ins 0) outs) _
      ∙ cond_eq (eqb (length ins) 1) (side_alone (nth ins 0) outs)
      (kept_cond (has_side u v) (eqb (length ins) 2) (halves vertex (nth ins 0) (nth ins 1) (nth outs 0) (nth outs 1)) _
      ∙ cond_eq (eqb (length ins) 2) (side_halves (nth ins 0) (nth ins 1) (nth outs 0) (nth outs 1))
      (kept_cond (has_side u v) (eqb (length ins) 3) (alone vertex (nth outs 0) ins) []
      ∙ cond_eq (eqb (length ins) 3) (side_alone (nth outs 0) ins) (kept_none (has_side u v))))

-- by a test for inside
unfoldable pub counts_by : Pairs → Pairs → (Corner → Bool) → ℕ
unfolding counts kept
counts_by b c within = counts b c (kept within corners) (kept (λ (x : Corner). not (within x)) corners)

pub side_cut_by :
    (vertex : Corner → Corner → ℕ) (u v : ℕ) (within : Corner → Bool)
    → length (kept (has_side u v) (cut_by vertex within)) ≡ counts_by (λ i j. eqb (vertex i j) u) (λ i j. eqb (vertex i j) v) within
unfolding cut_by counts_by
side_cut_by vertex u v within = side_cut vertex u v (kept within corners) (kept (λ (x : Corner). not (within x)) corners)

-- ---- no pair, no triangle

counts_left : (c : Pairs) (ins outs : List Corner) → counts (λ i j. false) c ins outs ≡ 0
unfolding counts
counts_left c ins outs = go (eqb (length ins) 1) (eqb (length ins) 2) (eqb (length ins) 3)
  where
    go : (p q r : Bool) → ◌≡◌ {A = ℕ} (cond p 0 (cond q 0 (cond r 0 0))) 0
    go true q r = refl
    go false true r = refl
    go false false true = refl
    go false false false = refl

counts_right : (b : Pairs) (ins outs : List Corner) → counts b (λ i j. false) ins outs ≡ 0
unfolding counts
counts_right b ins outs =
    rw (
      and-false (hit_alone b (nth ins 0) outs),
      and-false (hit_alone b (nth outs 0) ins),
      and-false (hit_first b (nth ins 0) (nth ins 1) (nth outs 0) (nth outs 1)),
      and-false (hit_second b (nth ins 0) (nth ins 1) (nth outs 0) (nth outs 1)),
    )
    (go (eqb (length ins) 1) (eqb (length ins) 2) (eqb (length ins) 3))
  where
    go : (p q r : Bool) → ◌≡◌ {A = ℕ} (cond p 0 (cond q 0 (cond r 0 0))) 0
    go true q r = refl
    go false true r = refl
    go false false true = refl
    go false false false = refl

pub none_left : (c : Corner → Corner → Bool) (within : Corner → Bool) → counts_by (λ i j. false) c within ≡ 0
unfolding counts_by
none_left c within = counts_left c (kept within corners) (kept (λ (x : Corner). not (within x)) corners)

pub none_right : (b : Corner → Corner → Bool) (within : Corner → Bool) → counts_by b (λ i j. false) within ≡ 0
unfolding counts_by
none_right b within = counts_right b (kept within corners) (kept (λ (x : Corner). not (within x)) corners)

-- ---- the test over all signs and pairs

-- the same two corners, in either order
unfoldable pub same_pair : Corner → Corner → Corner → Corner → Bool
same_pair k l i j = (eqc i k && eqc j l) || (eqc i l && eqc j k)

-- two pairs of corners have one in common
unfoldable pub meets : Corner → Corner → Corner → Corner → Bool
meets i j k l = eqc i k || (eqc i l || (eqc j k || eqc j l))

abbrev pub signs : Bool → Bool → Bool → Bool → Corner → Bool
signs b0 b1 b2 b3 c0 = b0
signs b0 b1 b2 b3 c1 = b1
signs b0 b1 b2 b3 c2 = b2
signs b0 b1 b2 b3 c3 = b3

-- both are crossed and they are not the same pair
crossed_by : (Corner → Bool) → Corner → Corner → Corner → Corner → Bool
crossed_by w i j k l = unlike (w i) (w j) && (unlike (w k) (w l) && not (same_pair i j k l))

-- two that meet are a side of one triangle; two that do not, of none or of two
local : (Corner → Bool) → Corner → Corner → Corner → Corner → Bool
unfolding crossed_by
local w i j k l =
    let n = counts_by (same_pair i j) (same_pair k l) w in
    not (crossed_by w i j k l) || cond (meets i j k l) (eqb n 1) (eqb n 0 || eqb n 2)

local_all : Bool → Bool → Bool → Bool → Bool
unfolding local every_corner
local_all b0 b1 b2 b3 =
    every_corner (λ i. every_corner (λ j. every_corner (λ k. every_corner (λ l. local (signs b0 b1 b2 b3) i j k l))))

local_tests : every_bool (λ b0. every_bool (λ b1. every_bool (λ b2. every_bool (λ b3. local_all b0 b1 b2 b3)))) ≡ true
unfolding every_bool every_corner local_all local crossed_by counts_by counts kept same_pair meets
local_tests = refl

local_law : (b0 b1 b2 b3 : Bool) (i j k l : Corner) → local (signs b0 b1 b2 b3) i j k l ≡ true
unfolding local_all
local_law b0 b1 b2 b3 i j k l =
    at_corner (λ l. local (signs b0 b1 b2 b3) i j k l)
    (at_corner (λ k. every_corner (λ l. local (signs b0 b1 b2 b3) i j k l))
    (at_corner (λ j. every_corner (λ k. every_corner (λ l. local (signs b0 b1 b2 b3) i j k l)))
    (at_corner (λ i. every_corner (λ j. every_corner (λ k. every_corner (λ l. local (signs b0 b1 b2 b3) i j k l))))
    (at_bool (λ b3. local_all b0 b1 b2 b3)
    (at_bool (λ b2. every_bool (λ b3. local_all b0 b1 b2 b3))
    (at_bool (λ b1. every_bool (λ b2. every_bool (λ b3. local_all b0 b1 b2 b3)))
    (at_bool (λ b0. every_bool (λ b1. every_bool (λ b2. every_bool (λ b3. local_all b0 b1 b2 b3)))) local_tests b0) b1) b2) b3) i) j) k) l

signs_at : (w : Corner → Bool) (c : Corner) → signs (w c0) (w c1) (w c2) (w c3) c ≡ w c
signs_at w c0 = refl
signs_at w c1 = refl
signs_at w c2 = refl
signs_at w c3 = refl

-- a test for inside is its four answers
pub signs_are : (w : Corner → Bool) → signs (w c0) (w c1) (w c2) (w c3) ≡ w
signs_are w = fun_ext (λ c. signs_at w c)

module _ (w : Corner → Bool) (i j k l : Corner) (ij : unlike (w i) (w j) ≡ true) (kl : unlike (w k) (w l) ≡ true) (un : same_pair i j k l ≡ false) where
  abbrev number : ℕ
  number = counts_by (same_pair i j) (same_pair k l) w

  both_crossed : crossed_by w i j k l ≡ true
  unfolding crossed_by
  both_crossed = rw (ij, kl, un)

  local_here : cond (meets i j k l) (eqb number 1) (eqb number 0 || eqb number 2) ≡ true
  unfolding local
  local_here =
      if_then (crossed_by w i j k l) (cond (meets i j k l) (eqb number 1) (eqb number 0 || eqb number 2))
      (subst (λ (x : Corner → Bool). local x i j k l ≡ true) (signs_are w) (local_law (w c0) (w c1) (w c2) (w c3) i j k l))
      both_crossed

  -- two crossed edges that meet are a side of one triangle
  pub face_count : meets i j k l ≡ true → counts_by (same_pair i j) (same_pair k l) w ≡ 1
  face_count m = eqb-true number 1 (rw m at local_here)

  -- two that do not are a side of none or of two
  pub inner_count : meets i j k l ≡ false → (counts_by (same_pair i j) (same_pair k l) w ≡ 0 → ⊥) → counts_by (same_pair i j) (same_pair k l) w ≡ 2
  inner_count m n =
      ⊎_elim (λ e. absurd (n (eqb-true number 0 e))) (λ e. eqb-true number 2 e) (or_cases (eqb number 0) (eqb number 2) (rw m at local_here))
