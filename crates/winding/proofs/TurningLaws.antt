-- Of each tetrahedron the triangles turned where they look inwards are those turned by its handedness and signs; and each looks outwards then.
-- Assumes nothing.
use Prim.Native.Nat.{ℕ}
use mathlib.Core.Path.{◌≡◌, refl, sym, ap, ap₂, ◌∙◌, subst}
use mathlib.Core.Logic.{⊎_elim}
use mathlib.Core.Bool.{Bool, true, false, not, cond, ◌&&◌, false≢true}
use mathlib.Core.List.Memᴰ
use mathlib.Core.List.{List, [], ◌∷◌, ◌++◌, map, map-append}
use lib.Dec.{eqb, leb}
use lib.Ieee.{unlike}
use lib.ListN.{length}
use borrow.Author.Tests.{not-true}
use Rattle.lists.specs.Lists.{◌∈◌, kept, joined}
use Rattle.lists.specs.Threes.{Three, three}
use Rattle.lists.proofs.ListLaws.{joined_in, map_in}
use Rattle.lists.proofs.Bools.{and_first, and_second}
use Rattle.search.specs.Keys.{ascending}
use Rattle.table.specs.Table.{Row}
use Rattle.table.specs.Rows.{keys_of}
use Rattle.edges.specs.Edges.{Edge}
use Rattle.tetrahedra.specs.Fours.{Four, Corner, c0, c1, c2, c3, corners, at}
use Rattle.tetrahedra.specs.Tetrahedra.{tetrahedra}
use Rattle.tetrahedra.specs.ClosedEdges.{inside_at, closed_edges}
use Rattle.tetrahedra.specs.ClosedTriangles.{vertex_of, rising, nth, alone, halves, cut, cut_by, triangles_of, closed_triangles}
use Rattle.tetrahedra.proofs.Corners.{eqc, corner_eq, every_bool, at_bool, other, free, pick, apart3}
use Rattle.tetrahedra.proofs.Local.{signs, signs_are}
use Rattle.winding.specs.Winding.{faces, normal_from_to, looks_in, turn_if, outwards, turned_triangles, LooksOutward, OutwardBy, SameButTurned, none, more}
use Rattle.winding.specs.Facing.{left_handed, turned_of}
use Rattle.winding.specs.Steps.{left_of, odd_rising, odd_signs, turn_alone, turn_halves, turn_cut, turn_by, ruled_of}
use Rattle.winding.proofs.Running.{odd_order}
use Rattle.winding.proofs.SpotLaws.{in_front_lem, turned_about, points_across}
use Rattle.winding.proofs.StandLaws.{Seen, hand_is, alone_seen, first_seen, second_seen}

-- ---- the finite part: which corners are cut, and that the rule says what the corners' order says

same : Bool → Bool → Bool
same x y = not (unlike x y)

fit : Bool → Bool → (Corner → Bool) → Corner → Corner → Corner → Corner → Bool → Bool
fit f left w p a b c odd =
    (apart3 p a b && eqc (other p a b) c)
    && ((unlike (w p) (w a) && (unlike (w p) (w b) && unlike (w p) (w c)))
    && same (unlike (unlike left (odd_order p a b c)) (not (w p))) (unlike f odd))

-- one against three, in each order in which they may be sorted
fit_alone : Bool → Bool → (Corner → Bool) → Corner → Corner → Corner → Corner → Bool
fit_alone f left w p x y z =
    fit f left w p x y z false
    && (fit f left w p x z y true && (fit f left w p z x y false && (fit f left w p y x z true && (fit f left w p y z x false && fit f left w p z y x true))))

fit_halves : Bool → Bool → (Corner → Bool) → Corner → Corner → Corner → Corner → Bool
fit_halves f left w p q r s =
    (apart3 p q r && eqc (other p q r) s)
    && ((w p && w q) && ((not (w r) && not (w s)) && same (unlike left (odd_order p q r s)) f))

fit_cut : Bool → Bool → (Corner → Bool) → List Corner → List Corner → Bool
fit_cut f left w ins outs =
    cond (eqb (length ins) 1) (fit_alone f left w (nth ins 0) (nth outs 0) (nth outs 1) (nth outs 2))
    (cond (eqb (length ins) 2) (fit_halves f left w (nth ins 0) (nth ins 1) (nth outs 0) (nth outs 1))
    (cond (eqb (length ins) 3) (fit_alone f left w (nth outs 0) (nth ins 0) (nth ins 1) (nth ins 2)) true))

fit_by : Bool → (Corner → Bool) → Bool
unfolding fit_cut kept odd_signs
fit_by left w = fit_cut (unlike left (odd_signs w)) left w (kept w corners) (kept (λ (c : Corner). not (w c)) corners)

fit_tests : every_bool (λ left. every_bool (λ b0. every_bool (λ b1. every_bool (λ b2. every_bool (λ b3. fit_by left (signs b0 b1 b2 b3)))))) ≡ true
unfolding every_bool fit_by fit_cut fit_alone fit_halves fit same kept odd_signs odd_order other pick free apart3
fit_tests = refl

all_fit : (left : Bool) (w : Corner → Bool) → fit_by left w ≡ true
all_fit left w =
    subst (λ (x : Corner → Bool). fit_by left x ≡ true) (signs_are w)
    (at_bool (λ b3. fit_by left (signs (w c0) (w c1) (w c2) b3))
    (at_bool (λ b2. every_bool (λ b3. fit_by left (signs (w c0) (w c1) b2 b3)))
    (at_bool (λ b1. every_bool (λ b2. every_bool (λ b3. fit_by left (signs (w c0) b1 b2 b3))))
    (at_bool (λ b0. every_bool (λ b1. every_bool (λ b2. every_bool (λ b3. fit_by left (signs b0 b1 b2 b3)))))
    (at_bool (λ left. every_bool (λ b0. every_bool (λ b1. every_bool (λ b2. every_bool (λ b3. fit_by left (signs b0 b1 b2 b3)))))) fit_tests left)
    (w c0)) (w c1)) (w c2)) (w c3))

same_eq : (x y : Bool) → same x y ≡ true → x ≡ y
unfolding same
same_eq true true e = refl
same_eq true false e = absurd (false≢true e)
same_eq false true e = absurd (false≢true e)
same_eq false false e = refl

not_turned : (g : Three ℕ) → turn_if false g ≡ g
unfolding turn_if
not_turned g = refl

turned_twice : (g : Three ℕ) → turn_if true (turn_if true g) ≡ g
unfolding turn_if
turned_twice g = refl

-- ---- of one tetrahedron of a table

module _ (rows : List Row) (up : ascending (keys_of rows) ≡ true) (t : Four) (m : t ∈ tetrahedra rows) where
  abbrev es : List Edge
  es = closed_edges rows

  abbrev w : Corner → Bool
  w c = inside_at rows (at t c)

  abbrev v : Corner → Corner → ℕ
  v i j = vertex_of es t i j

  abbrev left : Bool
  left = left_of t

  abbrev SeenAs : Three ℕ → Bool → Type 0
  SeenAs g k = Seen rows up t m g k

  abbrev hand_of : Corner → Corner → Corner → Bool
  hand_of p a b = left_handed (at t p) (at t a) (at t b) (at t (other p a b))

  fit_seen : (f : Bool) (p a b c : Corner) (odd : Bool) → fit f left w p a b c odd ≡ true → SeenAs (three (v p a) (v p b) (v p c)) (unlike f odd)
  unfolding fit
  fit_seen f p a b c odd h =
      let shape = and_first _ _ h in
      let rest = and_second (apart3 p a b && eqc (other p a b) c) _ h in
      let d : apart3 p a b ≡ true = and_first _ _ shape in
      let o : other p a b ≡ c = corner_eq (other p a b) c (and_second (apart3 p a b) _ shape) in
      let cross = and_first _ _ rest in
      let xa : unlike (w p) (w a) ≡ true = and_first _ _ cross in
      let xbc = and_second (unlike (w p) (w a)) _ cross in
      let xb : unlike (w p) (w b) ≡ true = and_first _ _ xbc in
      let xc : unlike (w p) (w c) ≡ true = and_second (unlike (w p) (w b)) _ xbc in
      let k : unlike (unlike left (odd_order p a b c)) (not (w p)) ≡ unlike f odd =
      same_eq _ _ (and_second (unlike (w p) (w a) && (unlike (w p) (w b) && unlike (w p) (w c))) _ rest) in
      let s = alone_seen rows up t m p a b d xa xb (subst (λ (x : Corner). unlike (w p) (w x) ≡ true) (sym o) xc) in
      let hand =
      ap (λ (x : Bool). unlike x (not (w p))) (hand_is rows up t m p a b d ∙ ap (λ (x : Corner). unlike left (odd_order p a b x)) o) ∙ k in
      subst (λ (x : Bool). SeenAs (three (v p a) (v p b) (v p c)) x) hand
      (subst (λ (x : Corner). SeenAs (three (v p a) (v p b) (v p x)) (unlike (hand_of p a b) (not (w p)))) o s)

  rising_seen : (f : Bool) (p x y z : Corner) → fit_alone f left w p x y z ≡ true
      → SeenAs (rising (v p x) (v p y) (v p z)) (unlike f (odd_rising (v p x) (v p y) (v p z)))
  unfolding fit_alone rising odd_rising
  rising_seen f p x y z h =
      let r1 = and_second (fit f left w p x y z false) _ h in
      let r2 = and_second (fit f left w p x z y true) _ r1 in
      let r3 = and_second (fit f left w p z x y false) _ r2 in
      let r4 = and_second (fit f left w p y x z true) _ r3 in
      go (leb (v p x) (v p y)) (leb (v p y) (v p z)) (leb (v p x) (v p z)) (fit_seen f p x y z false (and_first _ _ h))
      (fit_seen f p x z y true (and_first _ _ r1)) (fit_seen f p z x y false (and_first _ _ r2)) (fit_seen f p y x z true (and_first _ _ r3))
      (fit_seen f p y z x false (and_first _ _ r4)) (fit_seen f p z y x true (and_second (fit f left w p y z x false) _ r4))
    where
      go : (i j k : Bool)
          → SeenAs (three (v p x) (v p y) (v p z)) (unlike f false)
          → SeenAs (three (v p x) (v p z) (v p y)) (unlike f true)
          → SeenAs (three (v p z) (v p x) (v p y)) (unlike f false)
          → SeenAs (three (v p y) (v p x) (v p z)) (unlike f true)
          → SeenAs (three (v p y) (v p z) (v p x)) (unlike f false)
          → SeenAs (three (v p z) (v p y) (v p x)) (unlike f true)
          → SeenAs
          (cond i (cond j (three (v p x) (v p y) (v p z)) (cond k (three (v p x) (v p z) (v p y)) (three (v p z) (v p x) (v p y))))
          (cond k (three (v p y) (v p x) (v p z)) (cond j (three (v p y) (v p z) (v p x)) (three (v p z) (v p y) (v p x)))))
          (unlike f (cond i (cond j false (cond k true false)) (cond k true (cond j false true))))
      go true true k a b c d e g = a
      go true false true a b c d e g = b
      go true false false a b c d e g = c
      go false true true a b c d e g = d
      go false false true a b c d e g = d
      go false true false a b c d e g = e
      go false false false a b c d e g = g

  halves_seen : (f : Bool) (p q r s : Corner) → fit_halves f left w p q r s ≡ true
      → SeenAs (three (v p r) (v p s) (v q s)) f × SeenAs (three (v p r) (v q s) (v q r)) f
  unfolding fit_halves
  halves_seen f p q r s h =
      let shape = and_first _ _ h in
      let rest = and_second (apart3 p q r && eqc (other p q r) s) _ h in
      let d : apart3 p q r ≡ true = and_first _ _ shape in
      let o : other p q r ≡ s = corner_eq (other p q r) s (and_second (apart3 p q r) _ shape) in
      let ins = and_first _ _ rest in
      let more = and_second (w p && w q) _ rest in
      let outs = and_first _ _ more in
      let k : unlike left (odd_order p q r s) ≡ f = same_eq _ _ (and_second (not (w r) && not (w s)) _ more) in
      let ip : w p ≡ true = and_first _ _ ins in
      let iq : w q ≡ true = and_second (w p) _ ins in
      let or' : w r ≡ false = not-true (w r) (and_first _ _ outs) in
      let os : w s ≡ false = not-true (w s) (and_second (not (w r)) _ outs) in
      let oo : w (other p q r) ≡ false = subst (λ (x : Corner). w x ≡ false) (sym o) os in
      let hand = hand_is rows up t m p q r d ∙ ap (λ (x : Corner). unlike left (odd_order p q r x)) o ∙ k in (
        subst (λ (x : Bool). SeenAs (three (v p r) (v p s) (v q s)) x) hand
            (subst (λ (x : Corner). SeenAs (three (v p r) (v p x) (v q x)) (hand_of p q r)) o (first_seen rows up t m p q r d ip iq or' oo)),
        subst (λ (x : Bool). SeenAs (three (v p r) (v q s) (v q r)) x) hand
            (subst (λ (x : Corner). SeenAs (three (v p r) (v q x) (v q r)) (hand_of p q r)) o (second_seen rows up t m p q r d ip iq or' oo)),
      )

  -- ---- the list

  -- what is turned where it looks inwards is m, and every triangle is seen from its corners
  record Turned (l n : List (Three ℕ)) : Type 0 where
    lists : map (outwards rows es) l ≡ n
    each : (g : Three ℕ) → g ∈ l → (k : Bool) × SeenAs g k

  turned_as : (g : Three ℕ) (k : Bool) → SeenAs g k → outwards rows es g ≡ turn_if k g
  turned_as g k s = ap (λ (b : Bool). turn_if b g) s.looks

  alone_turned : (f : Bool) (p : Corner) (cs : List Corner) → fit_alone f left w p (nth cs 0) (nth cs 1) (nth cs 2) ≡ true
      → Turned (alone v p cs) (turn_alone v f p cs)
  alone_turned f p cs h =
      let x = v p (nth cs 0) in
      let y = v p (nth cs 1) in
      let z = v p (nth cs 2) in
      let s = rising_seen f p (nth cs 0) (nth cs 1) (nth cs 2) h in
      record {
        lists = ap (λ (g : Three ℕ). g ∷ []) (turned_as (rising x y z) (unlike f (odd_rising x y z)) s);
        each = λ g i. subst (λ (u : Three ℕ). (k : Bool) × SeenAs u k) (sym (Memᴰ.eq_of_singleton i)) (unlike f (odd_rising x y z), s);
      }

  halves_turned : (f : Bool) (p q r s : Corner) → fit_halves f left w p q r s ≡ true → Turned (halves v p q r s) (turn_halves v f p q r s)
  halves_turned f p q r s h =
      let one = three (v p r) (v p s) (v q s) in
      let other' = three (v p r) (v q s) (v q r) in
      let both' = halves_seen f p q r s h in
      record {
        lists = ap₂ (λ (g k : Three ℕ). g ∷ k ∷ []) (turned_as one f both'.0) (turned_as other' f both'.1);
        each = λ g i.
            ⊎_elim (λ e. subst (λ (u : Three ℕ). (k : Bool) × SeenAs u k) (sym e) (f, both'.0))
            (λ j. subst (λ (u : Three ℕ). (k : Bool) × SeenAs u k) (sym (Memᴰ.eq_of_singleton j)) (f, both'.1)) (Memᴰ.cases_cons i);
      }

  cut_turned : (f : Bool) (ins outs : List Corner) → fit_cut f left w ins outs ≡ true → Turned (cut v ins outs) (turn_cut v f ins outs)
  unfolding cut turn_cut fit_cut
  cut_turned f ins outs h = go (eqb (length ins) 1) (eqb (length ins) 2) (eqb (length ins) 3) h
    where
      go : (x y z : Bool)
          → cond x (fit_alone f left w (nth ins 0) (nth outs 0) (nth outs 1) (nth outs 2))
          (cond y (fit_halves f left w (nth ins 0) (nth ins 1) (nth outs 0) (nth outs 1))
          (cond z (fit_alone f left w (nth outs 0) (nth ins 0) (nth ins 1) (nth ins 2)) true)) ≡ true
          → Turned
          (cond x (alone v (nth ins 0) outs)
          (cond y (halves v (nth ins 0) (nth ins 1) (nth outs 0) (nth outs 1)) (cond z (alone v (nth outs 0) ins) [])))
          (cond x (turn_alone v f (nth ins 0) outs)
          (cond y (turn_halves v f (nth ins 0) (nth ins 1) (nth outs 0) (nth outs 1)) (cond z (turn_alone v f (nth outs 0) ins) [])))
      go true y z h = alone_turned f (nth ins 0) outs h
      go false true z h = halves_turned f (nth ins 0) (nth ins 1) (nth outs 0) (nth outs 1) h
      go false false true h = alone_turned f (nth outs 0) ins h
      go false false false h = record { lists = refl; each = λ g i. absurd (Memᴰ.not-nil i) }

  here : Turned (triangles_of rows es t) (ruled_of rows es t)
  unfolding cut_by turn_by fit_by
  here = cut_turned (unlike left (odd_signs w)) (kept w corners) (kept (λ (c : Corner). not (w c)) corners) (all_fit left w)

  -- Turned where they look inwards, or by the rule: the same.
  pub turned_here : turned_of rows es t ≡ ruled_of rows es t
  turned_here = here.lists

  -- ---- outwards

  -- a corner in front of a triangle, and of the same turned
  module _ (g : Three ℕ) (k : Bool) (s : SeenAs g k) (c : Corner) where
    straight : faces es g (at t c) ≡ unlike k (not (w c))
    straight = in_front_lem (unlike k (not (w c))) _ _ _ _ (s.stood c)

    swapped : faces es (turn_if true g) (at t c) ≡ not (unlike k (not (w c)))
    unfolding turn_if
    swapped = in_front_lem (not (unlike k (not (w c)))) _ _ _ _ (turned_about (unlike k (not (w c))) _ _ _ _ (s.stood c))

  outside_front : (g : Three ℕ) (k : Bool) → SeenAs g k → (c : Corner) → w c ≡ false → faces es (turn_if k g) (at t c) ≡ true
  outside_front g true s c o = swapped g true s c ∙ rw o
  outside_front g false s c o = ap (λ (x : Three ℕ). faces es x (at t c)) (not_turned g) ∙ straight g false s c ∙ rw o

  inside_behind : (g : Three ℕ) (k : Bool) → SeenAs g k → (c : Corner) → w c ≡ true → faces es (turn_if true (turn_if k g)) (at t c) ≡ true
  inside_behind g true s c o = ap (λ (x : Three ℕ). faces es x (at t c)) (turned_twice g) ∙ straight g true s c ∙ rw o
  inside_behind g false s c o = ap (λ (x : Three ℕ). faces es (turn_if true x) (at t c)) (not_turned g) ∙ swapped g false s c ∙ rw o

  normal_out : (f : Three ℕ) (c d : Corner)
      → faces es (turn_if true f) (at t c) ≡ true
      → faces es f (at t d) ≡ true
      → normal_from_to es f (at t c) (at t d) ≡ true
  unfolding turn_if
  normal_out f c d behind before = points_across _ _ _ _ _ behind before

  -- Each outside corner lies in front of a turned triangle, and each inside corner behind it.
  pub outward_here : (f : Three ℕ) → f ∈ turned_of rows es t → LooksOutward rows es f
  outward_here f i =
      let g = map_in (outwards rows es) (triangles_of rows es t) i in
      let s = here.each g.0 g.1 in
      let e : f ≡ turn_if s.0 g.0 = g.2 ∙ turned_as g.0 s.0 s.1 in
      let front : (c : Corner) → w c ≡ false → faces es f (at t c) ≡ true =
      λ c o. ap (λ (x : Three ℕ). faces es x (at t c)) e ∙ outside_front g.0 s.0 s.1 c o in
      let back : (c : Corner) → w c ≡ true → faces es (turn_if true f) (at t c) ≡ true =
      λ c o. ap (λ (x : Three ℕ). faces es (turn_if true x) (at t c)) e ∙ inside_behind g.0 s.0 s.1 c o in
      record {
        tetrahedron = t;
        listed = m;
        cut = (g.0, g.1, g.2);
        outside = front;
        inside = back;
        normal = λ c d i o. normal_out f c d (back c i) (front d o);
      }

-- ---- of the whole list

map_joined : {A B C : Type 0} (g : B → C) (f : A → List B) (l : List A) → map g (joined f l) ≡ joined (λ (x : A). map g (f x)) l
unfolding joined
map_joined g f [] = refl
map_joined {A} {B} {C} g f (x ∷ xs) = map-append g (f x) (joined f xs) ∙ ap (λ (r : List C). map g (f x) ++ r) (map_joined g f xs)

joined_same : {A B : Type 0} (f g : A → List B) (l : List A) → ((x : A) → x ∈ l → f x ≡ g x) → joined f l ≡ joined g l
unfolding joined
joined_same f g [] h = refl
joined_same f g (x ∷ xs) h = ap₂ ◌++◌ (h x (Memᴰ.head refl)) (joined_same f g xs (λ y m. h y (Memᴰ.tail m)))

-- tetrahedron by tetrahedron
pub turned_joined : (rows : List Row) → turned_triangles rows ≡ joined (turned_of rows (closed_edges rows)) (tetrahedra rows)
unfolding turned_triangles closed_triangles
turned_joined rows = map_joined (outwards rows (closed_edges rows)) (triangles_of rows (closed_edges rows)) (tetrahedra rows)

module _ (rows : List Row) (up : ascending (keys_of rows) ≡ true) where
  -- and by the rule
  pub turned_ruled : turned_triangles rows ≡ joined (ruled_of rows (closed_edges rows)) (tetrahedra rows)
  turned_ruled =
      turned_joined rows
      ∙ joined_same (turned_of rows (closed_edges rows)) (ruled_of rows (closed_edges rows)) (tetrahedra rows) (λ t m. turned_here rows up t m)

  -- Every triangle looks outwards: the outside corners of its tetrahedron lie in front of it, and the inside ones behind it.
  pub looks_outward : OutwardBy rows (closed_edges rows) (turned_triangles rows)
  looks_outward f i =
      let j = joined_in (turned_of rows (closed_edges rows)) (tetrahedra rows) (subst (λ (l : List (Three ℕ)). f ∈ l) (turned_joined rows) i) in
      outward_here rows up j.0 j.1 f j.2

-- ---- the same list but for turning

same_map : (g : Three ℕ → Bool) (l : List (Three ℕ)) → SameButTurned l (map (λ (f : Three ℕ). turn_if (g f) f) l)
same_map g [] = none
same_map g (x ∷ xs) = more (g x) (same_map g xs)

-- The turned list is No. 14's, in its order, each triangle as it is there or with its last two vertices swapped.
pub same_but_turned : (rows : List Row) → SameButTurned (closed_triangles rows) (turned_triangles rows)
unfolding turned_triangles
same_but_turned rows = same_map (looks_in rows (closed_edges rows)) (closed_triangles rows)
