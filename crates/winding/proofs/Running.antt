-- Within one tetrahedron: how many of its turned triangles run from one crossed edge to another. One test over the signs of four corners, both
-- handednesses and all pairs of corners.
-- Assumes nothing.
use Prim.Native.Nat.{ℕ, ◌+◌, ◌≤◌}
use native.Mathlib.Omega.{arith}
use mathlib.Core.Path.{◌≡◌, refl, sym, ap, ◌∙◌, subst}
use mathlib.Core.Bool.{Bool, true, false, not, cond, ◌&&◌, ◌||◌, and_comm}
use mathlib.Core.List.{List, [], ◌∷◌, map}
use lib.Dec.{eqb, leb}
use lib.Ieee.{unlike}
use lib.ListN.{length}
use borrow.Author.Tests.{eqb-true}
use Rattle.groups.specs.Groups.{one}
use Rattle.lists.specs.Lists.{kept}
use Rattle.lists.proofs.Bools.{and_first, and_second}
use Rattle.lists.specs.Threes.{Three, three}
use Rattle.tetrahedra.specs.Fours.{Corner, c0, c1, c2, c3, corners}
use Rattle.tetrahedra.specs.ClosedTriangles.{rising, nth, alone, halves, cut, cut_by}
use Rattle.tetrahedra.specs.Closing.{names, has_side}
use Rattle.tetrahedra.proofs.Corners.{place, every_corner, at_corner, every_bool, at_bool, if_then, pick, free, other, apart3}
use Rattle.tetrahedra.proofs.Counting.{length_front}
use Rattle.tetrahedra.proofs.Local.{Pairs, counts, counts_by, kept_cond, kept_one, kept_two, kept_none, cond_eq, same_pair, meets, signs, signs_are}
use Rattle.winding.specs.Winding.{turn_if, runs_through}
use Rattle.winding.specs.Steps.{odd_rising, odd_signs, turn_alone, turn_halves, turn_cut, turn_by}

-- ---- turning a triangle turns the way it runs

or_back : (x y z : Bool) → x || (y || z) ≡ z || (y || x)
or_back true true true = refl
or_back true true false = refl
or_back true false true = refl
or_back true false false = refl
or_back false true true = refl
or_back false true false = refl
or_back false false true = refl
or_back false false false = refl

or_round : (x y z : Bool) → y || (z || x) ≡ x || (y || z)
or_round true true true = refl
or_round true true false = refl
or_round true false true = refl
or_round true false false = refl
or_round false true true = refl
or_round false true false = refl
or_round false false true = refl
or_round false false false = refl

-- the last two swapped
flipped : (u v x y z : ℕ) → runs_through u v (three x z y) ≡ runs_through v u (three x y z)
unfolding runs_through
flipped u v x y z =
    rw (and_comm (eqb x u) (eqb z v), and_comm (eqb z u) (eqb y v), and_comm (eqb y u) (eqb x v))
    (or_back (eqb z v && eqb x u) (eqb y v && eqb z u) (eqb x v && eqb y u))

-- the first put last
round : (u v x y z : ℕ) → runs_through u v (three y z x) ≡ runs_through u v (three x y z)
unfolding runs_through
round u v x y z = or_round (eqb x u && eqb y v) (eqb y u && eqb z v) (eqb z u && eqb x v)

pub turn_runs : (u v : ℕ) (f : Bool) (x y z : ℕ)
    → runs_through u v (turn_if f (three x y z)) ≡ cond f (runs_through v u (three x y z)) (runs_through u v (three x y z))
unfolding turn_if
turn_runs u v true x y z = flipped u v x y z
turn_runs u v false x y z = refl

-- the order in which No. 14 names the vertices of a single triangle does not matter
pub rising_runs : (u v : ℕ) (f : Bool) (x y z : ℕ)
    → runs_through u v (turn_if (unlike f (odd_rising x y z)) (rising x y z)) ≡ cond f (runs_through v u (three x y z)) (runs_through u v (three x y z))
unfolding rising odd_rising turn_if
rising_runs u v f x y z = go f (leb x y) (leb y z) (leb x z)
  where
    zyx : (u v : ℕ) → runs_through u v (three z y x) ≡ runs_through v u (three x y z)
    zyx u v = flipped u v z x y ∙ sym (round v u z x y)

    yxz : (u v : ℕ) → runs_through u v (three y x z) ≡ runs_through v u (three x y z)
    yxz u v = flipped u v y z x ∙ round v u x y z

    go : (f p q r : Bool)
        → runs_through u v
        (turn_if (unlike f (cond p (cond q false (cond r true false)) (cond r true (cond q false true))))
        (cond p (cond q (three x y z) (cond r (three x z y) (three z x y))) (cond r (three y x z) (cond q (three y z x) (three z y x)))))
        ≡ cond f (runs_through v u (three x y z)) (runs_through u v (three x y z))
    go true true true r = flipped u v x y z
    go true true false true = flipped u v x y z
    go true true false false = zyx u v
    go true false true true = yxz u v
    go true false false true = yxz u v
    go true false true false = yxz u v
    go true false false false = zyx u v
    go false true true r = refl
    go false true false true = refl
    go false true false false = sym (round u v z x y)
    go false false true true = round u v x y z
    go false false false true = round u v x y z
    go false false true false = round u v x y z
    go false false false false = sym (round u v z x y)

-- ---- counting by tests of pairs of corners

abbrev go_alone : Pairs → Pairs → Corner → List Corner → Bool
go_alone b c p cs = (b p (nth cs 0) && c p (nth cs 1)) || ((b p (nth cs 1) && c p (nth cs 2)) || (b p (nth cs 2) && c p (nth cs 0)))

abbrev go_first : Pairs → Pairs → Corner → Corner → Corner → Corner → Bool
go_first b c p q r s = (b p r && c p s) || ((b p s && c q s) || (b q s && c p r))

abbrev go_second : Pairs → Pairs → Corner → Corner → Corner → Corner → Bool
go_second b c p q r s = (b p r && c q s) || ((b q s && c q r) || (b q r && c p r))

run_counts : Bool → Pairs → Pairs → List Corner → List Corner → ℕ
run_counts f b c ins outs =
    cond (eqb (length ins) 1) (one (cond f (go_alone c b (nth ins 0) outs) (go_alone b c (nth ins 0) outs)))
    (cond (eqb (length ins) 2)
    (one (cond f (go_first c b (nth ins 0) (nth ins 1) (nth outs 0) (nth outs 1)) (go_first b c (nth ins 0) (nth ins 1) (nth outs 0) (nth outs 1)))
    + one (cond f (go_second c b (nth ins 0) (nth ins 1) (nth outs 0) (nth outs 1)) (go_second b c (nth ins 0) (nth ins 1) (nth outs 0) (nth outs 1))))
    (cond (eqb (length ins) 3) (one (cond f (go_alone c b (nth outs 0) ins) (go_alone b c (nth outs 0) ins))) 0))

module _ (vertex : Corner → Corner → ℕ) (u v : ℕ) (f : Bool) where
  abbrev pairs_at : ℕ → Corner → Corner → Bool
  pairs_at w i j = eqb (vertex i j) w

  run_alone : (p : Corner) (cs : List Corner)
      → length (kept (runs_through u v) (turn_alone vertex f p cs))
      ≡ one (cond f (go_alone (pairs_at v) (pairs_at u) p cs) (go_alone (pairs_at u) (pairs_at v) p cs))
  unfolding runs_through
  run_alone p cs =
      let x = vertex p (nth cs 0) in
      let y = vertex p (nth cs 1) in
      let z = vertex p (nth cs 2) in
      kept_one (runs_through u v) (turn_if (unlike f (odd_rising x y z)) (rising x y z)) ∙ ap one (rising_runs u v f x y z)

  run_halves : (p q r s : Corner)
      → length (kept (runs_through u v) (turn_halves vertex f p q r s))
      ≡ one (cond f (go_first (pairs_at v) (pairs_at u) p q r s) (go_first (pairs_at u) (pairs_at v) p q r s)) + one
      (cond f (go_second (pairs_at v) (pairs_at u) p q r s) (go_second (pairs_at u) (pairs_at v) p q r s))
  unfolding runs_through
  run_halves p q r s =
      kept_two (runs_through u v) (turn_if f (three (vertex p r) (vertex p s) (vertex q s))) (turn_if f (three (vertex p r) (vertex q s) (vertex q r)))
      ∙ rw (turn_runs u v f (vertex p r) (vertex p s) (vertex q s), turn_runs u v f (vertex p r) (vertex q s) (vertex q r))

  run_cut : (ins outs : List Corner) → length (kept (runs_through u v) (turn_cut vertex f ins outs)) ≡ run_counts f (pairs_at u) (pairs_at v) ins outs
  unfolding turn_cut run_counts
  run_cut ins outs =
      kept_cond (runs_through u v) (eqb (length ins) 1) (turn_alone vertex f (nth ins 0) outs) _
      ∙ cond_eq (eqb (length ins) 1) (run_alone (nth ins 0) outs)
      (kept_cond (runs_through u v) (eqb (length ins) 2) (turn_halves vertex f (nth ins 0) (nth ins 1) (nth outs 0) (nth outs 1)) _
      ∙ cond_eq (eqb (length ins) 2) (run_halves (nth ins 0) (nth ins 1) (nth outs 0) (nth outs 1))
      (kept_cond (runs_through u v) (eqb (length ins) 3) (turn_alone vertex f (nth outs 0) ins) []
      ∙ cond_eq (eqb (length ins) 3) (run_alone (nth outs 0) ins) (kept_none (runs_through u v))))

-- by the handedness and a test for inside
pub runs_by : Bool → Pairs → Pairs → (Corner → Bool) → ℕ
unfolding run_counts kept odd_signs
runs_by left b c w = run_counts (unlike left (odd_signs w)) b c (kept w corners) (kept (λ (x : Corner). not (w x)) corners)

pub run_cut_by : (vertex : Corner → Corner → ℕ) (u v : ℕ) (left : Bool) (w : Corner → Bool)
    → length (kept (runs_through u v) (turn_by vertex left w)) ≡ runs_by left (λ i j. eqb (vertex i j) u) (λ i j. eqb (vertex i j) v) w
unfolding turn_by runs_by
run_cut_by vertex u v left w = run_cut vertex u v (unlike left (odd_signs w)) (kept w corners) (kept (λ (x : Corner). not (w x)) corners)

-- ---- the tests over all signs, handednesses and pairs

-- the order of four corners is an odd permutation
abbrev pub above : Corner → Corner → Bool
above i j = not (leb (place i) (place j))

unfoldable pub odd_order : Corner → Corner → Corner → Corner → Bool
odd_order i j k l = unlike (above i j) (unlike (above i k) (unlike (above i l) (unlike (above j k) (unlike (above j l) (above k l)))))

-- which way the triangle that has the edges m a, m b runs, in a tetrahedron with the corners m, a, b, o
unfoldable pub forward : Bool → Corner → Corner → Corner → Bool → Bool
unfolding odd_order other pick free
forward left m a b inner = unlike (unlike left (odd_order m a b (other m a b))) inner

face_test : Bool → (Corner → Bool) → Corner → Corner → Corner → Bool
face_test left w m a b =
    not (apart3 m a b && (unlike (w m) (w a) && unlike (w m) (w b)))
    || (eqb (runs_by left (same_pair m a) (same_pair m b) w) (one (forward left m a b (w m)))
    && eqb (runs_by left (same_pair m b) (same_pair m a) w) (one (not (forward left m a b (w m)))))

inner_test : Bool → (Corner → Bool) → Corner → Corner → Corner → Corner → Bool
inner_test left w i j k l =
    not (unlike (w i) (w j) && (unlike (w k) (w l) && not (meets i j k l)))
    || eqb (runs_by left (same_pair i j) (same_pair k l) w + runs_by left (same_pair i j) (same_pair k l) w) (counts_by (same_pair i j) (same_pair k l) w)

local_all : Bool → Bool → Bool → Bool → Bool → Bool
unfolding face_test inner_test every_corner
local_all left b0 b1 b2 b3 =
    every_corner
    (λ i. every_corner
    (λ j. every_corner (λ k. face_test left (signs b0 b1 b2 b3) i j k && every_corner (λ l. inner_test left (signs b0 b1 b2 b3) i j k l))))

local_tests : every_bool (λ left. every_bool (λ b0. every_bool (λ b1. every_bool (λ b2. every_bool (λ b3. local_all left b0 b1 b2 b3))))) ≡ true
unfolding every_bool every_corner local_all face_test inner_test runs_by run_counts kept odd_signs forward odd_order other
    pick free apart3 same_pair meets counts_by counts
local_tests = refl

local_law : (left b0 b1 b2 b3 : Bool) (i j k : Corner)
    → (face_test left (signs b0 b1 b2 b3) i j k && every_corner (λ l. inner_test left (signs b0 b1 b2 b3) i j k l)) ≡ true
unfolding local_all
local_law left b0 b1 b2 b3 i j k =
    let test : Bool → Bool → Bool → Bool → Bool → Corner → Corner → Corner → Bool =
    λ left b0 b1 b2 b3 i j k. face_test left (signs b0 b1 b2 b3) i j k && every_corner (λ l. inner_test left (signs b0 b1 b2 b3) i j k l) in
    at_corner (λ k. test left b0 b1 b2 b3 i j k)
    (at_corner (λ j. every_corner (λ k. test left b0 b1 b2 b3 i j k))
    (at_corner (λ i. every_corner (λ j. every_corner (λ k. test left b0 b1 b2 b3 i j k)))
    (at_bool (λ b3. local_all left b0 b1 b2 b3)
    (at_bool (λ b2. every_bool (λ b3. local_all left b0 b1 b2 b3))
    (at_bool (λ b1. every_bool (λ b2. every_bool (λ b3. local_all left b0 b1 b2 b3)))
    (at_bool (λ b0. every_bool (λ b1. every_bool (λ b2. every_bool (λ b3. local_all left b0 b1 b2 b3))))
    (at_bool
    (λ left. every_bool
    (λ b0. every_bool (λ b1. every_bool (λ b2. every_bool (λ b3. local_all left b0 b1 b2 b3))))) local_tests left) b0) b1) b2) b3) i) j) k

-- through a side on a face: by the signs and the side on which the tetrahedron lies
module _ (left : Bool) (w : Corner → Bool) (m a b : Corner) (d : apart3 m a b ≡ true) (p : unlike (w m) (w a) ≡ true) (q : unlike (w m) (w b) ≡ true) where
  abbrev there : Bool
  there = eqb (runs_by left (same_pair m a) (same_pair m b) w) (one (forward left m a b (w m)))

  abbrev back : Bool
  back = eqb (runs_by left (same_pair m b) (same_pair m a) w) (one (not (forward left m a b (w m))))

  face_here : (there && back) ≡ true
  unfolding face_test
  face_here =
      if_then (apart3 m a b && (unlike (w m) (w a) && unlike (w m) (w b))) (there && back)
      (subst (λ (x : Corner → Bool). face_test left x m a b ≡ true) (signs_are w)
      (and_first (face_test left (signs (w c0) (w c1) (w c2) (w c3)) m a b) _ (local_law left (w c0) (w c1) (w c2) (w c3) m a b)))
      (rw (d, p, q))

  pub face_run : runs_by left (same_pair m a) (same_pair m b) w ≡ one (forward left m a b (w m))
  face_run = eqb-true _ _ (and_first there back face_here)

  pub back_run : runs_by left (same_pair m b) (same_pair m a) w ≡ one (not (forward left m a b (w m)))
  back_run = eqb-true _ _ (and_second there back face_here)

-- through a side inside: as many one way as the other way
pub inner_run : (left : Bool) (w : Corner → Bool) (i j k l : Corner) → unlike (w i) (w j) ≡ true → unlike (w k) (w l) ≡ true → meets i j k l ≡ false
    → runs_by left (same_pair i j) (same_pair k l) w + runs_by left (same_pair i j) (same_pair k l) w ≡ counts_by (same_pair i j) (same_pair k l) w
unfolding inner_test
inner_run left w i j k l p q m =
    eqb-true _ _
    (if_then (unlike (w i) (w j) && (unlike (w k) (w l) && not (meets i j k l)))
    (eqb (runs_by left (same_pair i j) (same_pair k l) w + runs_by left (same_pair i j) (same_pair k l) w) (counts_by (same_pair i j) (same_pair k l) w))
    (subst (λ (x : Corner → Bool). inner_test left x i j k l ≡ true) (signs_are w)
    (at_corner (λ l. inner_test left (signs (w c0) (w c1) (w c2) (w c3)) i j k l)
    (and_second (face_test left (signs (w c0) (w c1) (w c2) (w c3)) i j k) _ (local_law left (w c0) (w c1) (w c2) (w c3) i j k)) l))
    (rw (p, q, m)))

-- ---- turning keeps the sides

or_swap : (a b c : Bool) → a || (c || b) ≡ a || (b || c)
or_swap true b c = refl
or_swap false true true = refl
or_swap false true false = refl
or_swap false false true = refl
or_swap false false false = refl

pub turn_names : (u : ℕ) (f : Bool) (t : Three ℕ) → names u (turn_if f t) ≡ names u t
unfolding names turn_if
turn_names u true t = or_swap (eqb t.a u) (eqb t.b u) (eqb t.c u)
turn_names u false t = refl

pub turn_side : (u v : ℕ) (f : Bool) (t : Three ℕ) → has_side u v (turn_if f t) ≡ has_side u v t
unfolding has_side
turn_side u v f t = rw (turn_names u f t, turn_names v f t)

pub kept_turned :
    (u v : ℕ) (f : Three ℕ → Bool) (l : List (Three ℕ))
    → length (kept (has_side u v) (map (λ (t : Three ℕ). turn_if (f t) t) l)) ≡ length (kept (has_side u v) l)
unfolding kept
kept_turned u v f [] = refl
kept_turned u v f (x ∷ xs) =
    omega (
      arith,
      length_front (has_side u v (turn_if (f x) x)) (turn_if (f x) x) (kept (has_side u v) (map (λ (t : Three ℕ). turn_if (f t) t) xs)),
      length_front (has_side u v x) x (kept (has_side u v) xs),
      ap one (turn_side u v (f x) x),
      kept_turned u v f xs,
    )

-- a cut has as many triangles with a side, turned or not
pub turned_sides : (vertex : Corner → Corner → ℕ) (u v : ℕ) (left : Bool) (w : Corner → Bool)
    → length (kept (has_side u v) (turn_by vertex left w)) ≡ length (kept (has_side u v) (cut_by vertex w))
unfolding turn_by turn_cut cut_by cut
turned_sides vertex u v left w = go (kept w corners) (kept (λ (x : Corner). not (w x)) corners)
  where
    f : Bool
    f = unlike left (odd_signs w)

    g : Three ℕ → Bool
    g = has_side u v

    go : (ins outs : List Corner)
        → length (kept (has_side u v) (turn_cut vertex (unlike left (odd_signs w)) ins outs)) ≡ length (kept (has_side u v) (cut vertex ins outs))
    go ins outs =
        let p = nth ins 0 in
        let a : (q : Corner) (cs : List Corner)
        → length (kept (has_side u v) (turn_alone vertex (unlike left (odd_signs w)) q cs)) ≡ length (kept (has_side u v) (alone vertex q cs)) =
        λ q cs. kept_turned u v (λ _. unlike (unlike left (odd_signs w)) (odd_rising (vertex q (nth cs 0)) (vertex q (nth cs 1)) (vertex q (nth cs 2))))
        (alone vertex q cs) in
        let h = kept_turned u v (λ _. unlike left (odd_signs w)) (halves vertex (nth ins 0) (nth ins 1) (nth outs 0) (nth outs 1)) in
        kept_cond (has_side u v) (eqb (length ins) 1) (turn_alone vertex (unlike left (odd_signs w)) p outs) _
        ∙ cond_eq (eqb (length ins) 1) (a p outs)
        (kept_cond (has_side u v) (eqb (length ins) 2) (turn_halves vertex (unlike left (odd_signs w)) p (nth ins 1) (nth outs 0) (nth outs 1)) _
        ∙ cond_eq (eqb (length ins) 2) h
        (kept_cond (has_side u v) (eqb (length ins) 3) (turn_alone vertex (unlike left (odd_signs w)) (nth outs 0) ins) []
        ∙ cond_eq (eqb (length ins) 3) (a (nth outs 0) ins) refl
        ∙ sym (kept_cond (has_side u v) (eqb (length ins) 3) (alone vertex (nth outs 0) ins) []))
        ∙ sym (kept_cond (has_side u v) (eqb (length ins) 2) (halves vertex p (nth ins 1) (nth outs 0) (nth outs 1)) _))
        ∙ sym (kept_cond (has_side u v) (eqb (length ins) 1) (alone vertex p outs) _)

-- a triangle that runs from u to v has the side u, v
side_test : Bool → Bool → Bool → Bool → Bool → Bool → Bool
side_test a b c x y z = not ((a && y) || ((b && z) || (c && x))) || ((a || (b || c)) && (x || (y || z)))

side_tests : every_bool (λ a. every_bool (λ b. every_bool (λ c. every_bool (λ x. every_bool (λ y. every_bool (λ z. side_test a b c x y z)))))) ≡ true
unfolding every_bool side_test
side_tests = refl

side_law : (a b c x y z : Bool) → side_test a b c x y z ≡ true
side_law a b c x y z =
    at_bool (λ z. side_test a b c x y z)
    (at_bool (λ y. every_bool (λ z. side_test a b c x y z))
    (at_bool (λ x. every_bool (λ y. every_bool (λ z. side_test a b c x y z)))
    (at_bool (λ c. every_bool (λ x. every_bool (λ y. every_bool (λ z. side_test a b c x y z))))
    (at_bool (λ b. every_bool (λ c. every_bool (λ x. every_bool (λ y. every_bool (λ z. side_test a b c x y z)))))
    (at_bool (λ a. every_bool (λ b. every_bool (λ c. every_bool (λ x. every_bool (λ y. every_bool (λ z. side_test a b c x y z)))))) side_tests a) b) c) x) y) z

pub runs_side : (u v : ℕ) (t : Three ℕ) → runs_through u v t ≡ true → has_side u v t ≡ true
unfolding runs_through has_side names side_test
runs_side u v t =
    if_then (runs_through u v t) (has_side u v t) (side_law (eqb t.a u) (eqb t.b u) (eqb t.c u) (eqb t.a v) (eqb t.b v) (eqb t.c v))

one_below : (a b : Bool) → (a ≡ true → b ≡ true) → one a ≤ one b
one_below true b h = let e = ap one (h refl) in omega arith
one_below false b h = omega arith

pub fewer : (f g : Three ℕ → Bool) → ((t : Three ℕ) → f t ≡ true → g t ≡ true) → (l : List (Three ℕ)) → length (kept f l) ≤ length (kept g l)
unfolding kept
fewer f g h [] = omega arith
fewer f g h (x ∷ xs) =
    omega (arith, length_front (f x) x (kept f xs), length_front (g x) x (kept g xs), one_below (f x) (g x) (h x), fewer f g h xs)
