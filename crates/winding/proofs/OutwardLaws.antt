-- Every triangle looks out.
-- Assumes nothing.
use Prim.Native.Nat.{ℕ}
use mathlib.Core.Path.{◌≡◌, refl, sym, ap, ◌∙◌, subst}
use mathlib.Core.Logic.{⊎_elim}
use mathlib.Core.Bool.{Bool, true, false, not, cond, ◌&&◌, false≢true}
use mathlib.Core.List.Memᴰ
use mathlib.Core.List.{List, [], ◌∷◌}
use lib.Dec.{eqb}
use lib.Ieee.{unlike}
use lib.ListN.{length}
use borrow.Author.Tests.{eq-eqb, not-true}
use Rattle.lists.specs.Lists.{◌∈◌, Ordered, Distinct, kept}
use Rattle.lists.proofs.Bools.{and_first, and_second}
use Rattle.search.specs.Keys.{ascending}
use Rattle.table.specs.Table.{Row}
use Rattle.table.specs.Rows.{keys_of}
use Rattle.lists.specs.Threes.{Three, three}
use Rattle.tetrahedra.specs.Fours.{Corner, c0, c1, c2, c3, corners, at}
use Rattle.tetrahedra.specs.ClosedEdges.{inside_at, closed_edges}
use Rattle.tetrahedra.specs.ClosedTriangles.{vertex_of, nth}
use Rattle.tetrahedra.proofs.Corners.{place, eqc, every_bool, at_bool, or_first_true, or_second_true, other, free, pick, apart3}
use Rattle.tetrahedra.proofs.Local.{signs, signs_are}
use Rattle.tetrahedra.proofs.TetrahedronLaws.{clique_in}
use Rattle.winding.specs.Winding.{runs_through}
use Rattle.winding.specs.Facing.{left_handed, EveryLooksOut}
use Rattle.winding.specs.Steps.{odd_signs, turn_alone, turn_halves, turn_cut, turn_by, left_of}
use Rattle.winding.proofs.Running.{turn_runs, rising_runs, odd_order, forward}
use Rattle.winding.proofs.Sides.{in_any_order, other_free}
use Rattle.winding.proofs.TurningLaws.{turned_here}

-- ---- the finite part: which two edges show that a triangle looks out

good : Bool → (Corner → Bool) → Corner → Corner → Corner → Bool
good left w i j k = apart3 i j k && (unlike (w i) (w j) && (unlike (w i) (w k) && forward left i j k (w i)))

good_alone : Bool → Bool → (Corner → Bool) → Corner → List Corner → Bool
good_alone f left w p cs = cond f (good left w p (nth cs 1) (nth cs 0)) (good left w p (nth cs 0) (nth cs 1))

good_halves : Bool → Bool → (Corner → Bool) → Corner → Corner → Corner → Corner → Bool
good_halves f left w p q r s = cond f (good left w p s r && good left w q r s) (good left w p r s && good left w q s r)

good_cut : Bool → Bool → (Corner → Bool) → List Corner → List Corner → Bool
good_cut f left w ins outs =
    cond (eqb (length ins) 1) (good_alone f left w (nth ins 0) outs)
    (cond (eqb (length ins) 2) (good_halves f left w (nth ins 0) (nth ins 1) (nth outs 0) (nth outs 1))
    (cond (eqb (length ins) 3) (good_alone f left w (nth outs 0) ins) true))

good_by : Bool → (Corner → Bool) → Bool
unfolding good_cut kept odd_signs
good_by left w = good_cut (unlike left (odd_signs w)) left w (kept w corners) (kept (λ (c : Corner). not (w c)) corners)

good_tests : every_bool (λ left. every_bool (λ b0. every_bool (λ b1. every_bool (λ b2. every_bool (λ b3. good_by left (signs b0 b1 b2 b3)))))) ≡ true
unfolding every_bool good_by good_cut good_alone good_halves good kept odd_signs forward odd_order other pick free apart3
good_tests = refl

good_law : (left b0 b1 b2 b3 : Bool) → good_by left (signs b0 b1 b2 b3) ≡ true
good_law left b0 b1 b2 b3 =
    at_bool (λ b3. good_by left (signs b0 b1 b2 b3))
    (at_bool (λ b2. every_bool (λ b3. good_by left (signs b0 b1 b2 b3)))
    (at_bool (λ b1. every_bool (λ b2. every_bool (λ b3. good_by left (signs b0 b1 b2 b3))))
    (at_bool (λ b0. every_bool (λ b1. every_bool (λ b2. every_bool (λ b3. good_by left (signs b0 b1 b2 b3)))))
    (at_bool
    (λ left. every_bool (λ b0. every_bool (λ b1. every_bool (λ b2. every_bool (λ b3. good_by left (signs b0 b1 b2 b3)))))) good_tests left) b0) b1) b2) b3

all_good : (left : Bool) (w : Corner → Bool) → good_by left w ≡ true
all_good left w = subst (λ (x : Corner → Bool). good_by left x ≡ true) (signs_are w) (good_law left (w c0) (w c1) (w c2) (w c3))

-- ---- the triangles

both_same : (x y : ℕ) → (eqb x x && eqb y y) ≡ true
both_same x y = rw (eq-eqb x x refl, eq-eqb y y refl)

-- from the first to the second, and from the second to the third
first_side : (x y z : ℕ) → runs_through x y (three x y z) ≡ true
unfolding runs_through
first_side x y z = or_first_true (eqb x x && eqb y y) _ (both_same x y)

second_side : (x y z : ℕ) → runs_through y z (three x y z) ≡ true
unfolding runs_through
second_side x y z = or_second_true (eqb x y && eqb y z) _ (or_first_true (eqb y y && eqb z z) _ (both_same y z))

module _ (vertex : Corner → Corner → ℕ) (left : Bool) (w : Corner → Bool) where
  record Way (f : Three ℕ) : Type 0 where
    i : Corner
    j : Corner
    k : Corner
    fine : good left w i j k ≡ true
    way : runs_through (vertex i j) (vertex i k) f ≡ true

  alone_way : (b : Bool) (p : Corner) (cs : List Corner) → good_alone b left w p cs ≡ true → (f : Three ℕ) → f ∈ turn_alone vertex b p cs → Way f
  unfolding good_alone
  alone_way true p cs g f m =
      let x = vertex p (nth cs 0) in
      let y = vertex p (nth cs 1) in
      let z = vertex p (nth cs 2) in
      record {
        i = p;
        j = nth cs 1;
        k = nth cs 0;
        fine = g;
        way = ap (runs_through y x) (Memᴰ.eq_of_singleton m) ∙ rising_runs y x true x y z ∙ first_side x y z;
      }
  alone_way false p cs g f m =
      let x = vertex p (nth cs 0) in
      let y = vertex p (nth cs 1) in
      let z = vertex p (nth cs 2) in
      record {
        i = p;
        j = nth cs 0;
        k = nth cs 1;
        fine = g;
        way = ap (runs_through x y) (Memᴰ.eq_of_singleton m) ∙ rising_runs x y false x y z ∙ first_side x y z;
      }

  halves_way : (b : Bool) (p q r s : Corner) → good_halves b left w p q r s ≡ true → (f : Three ℕ) → f ∈ turn_halves vertex b p q r s → Way f
  unfolding good_halves
  halves_way true p q r s g f m =
      let pr = vertex p r in
      let ps = vertex p s in
      let qs = vertex q s in
      let qr = vertex q r in
      ⊎_elim
      (λ e.
      record {
        i = p;
        j = s;
        k = r;
        fine = and_first (good left w p s r) (good left w q r s) g;
        way = ap (runs_through ps pr) e ∙ turn_runs ps pr true pr ps qs ∙ first_side pr ps qs;
      })
      (λ n.
      record {
        i = q;
        j = r;
        k = s;
        fine = and_second (good left w p s r) (good left w q r s) g;
        way = ap (runs_through qr qs) (Memᴰ.eq_of_singleton n) ∙ turn_runs qr qs true pr qs qr ∙ second_side pr qs qr;
      })
      (Memᴰ.cases_cons m)
  halves_way false p q r s g f m =
      let pr = vertex p r in
      let ps = vertex p s in
      let qs = vertex q s in
      let qr = vertex q r in
      ⊎_elim
      (λ e.
      record {
        i = p;
        j = r;
        k = s;
        fine = and_first (good left w p r s) (good left w q s r) g;
        way = ap (runs_through pr ps) e ∙ turn_runs pr ps false pr ps qs ∙ first_side pr ps qs;
      })
      (λ n.
      record {
        i = q;
        j = s;
        k = r;
        fine = and_second (good left w p r s) (good left w q s r) g;
        way = ap (runs_through qs qr) (Memᴰ.eq_of_singleton n) ∙ turn_runs qs qr false pr qs qr ∙ second_side pr qs qr;
      })
      (Memᴰ.cases_cons m)

  cut_way : (b : Bool) (ins outs : List Corner) → good_cut b left w ins outs ≡ true → (f : Three ℕ) → f ∈ turn_cut vertex b ins outs → Way f
  unfolding turn_cut good_cut
  cut_way b ins outs g f m = go (eqb (length ins) 1) (eqb (length ins) 2) (eqb (length ins) 3) g m
    where
      go : (x y z : Bool)
          → cond x (good_alone b left w (nth ins 0) outs)
          (cond y (good_halves b left w (nth ins 0) (nth ins 1) (nth outs 0) (nth outs 1)) (cond z (good_alone b left w (nth outs 0) ins) true)) ≡ true
          → f ∈ cond x (turn_alone vertex b (nth ins 0) outs)
          (cond y (turn_halves vertex b (nth ins 0) (nth ins 1) (nth outs 0) (nth outs 1)) (cond z (turn_alone vertex b (nth outs 0) ins) []))
          → Way f
      go true y z g m = alone_way b (nth ins 0) outs g f m
      go false true z g m = halves_way b (nth ins 0) (nth ins 1) (nth outs 0) (nth outs 1) g f m
      go false false true g m = alone_way b (nth outs 0) ins g f m
      go false false false g m = absurd (Memᴰ.not-nil m)

  way_by : (f : Three ℕ) → f ∈ turn_by vertex left w → Way f
  unfolding turn_by good_by
  way_by f m =
      cut_way (unlike left (odd_signs w)) (kept w corners) (kept (λ (c : Corner). not (w c)) corners) (all_good left w) f m

-- ---- corners that differ

differ : (i j : Corner) → eqc i j ≡ false → i ≡ j → ⊥
differ i j n e = false≢true (sym n ∙ sym (ap (eqc i) e) ∙ eq-eqb (place i) (place i) refl)

four_differ : (i j k l : Corner) → (i ≡ j → ⊥) → (i ≡ k → ⊥) → (i ≡ l → ⊥) → (j ≡ k → ⊥) → (j ≡ l → ⊥) → (k ≡ l → ⊥) → Distinct (i ∷ j ∷ k ∷ l ∷ [])
unfolding Ordered
four_differ i j k l ij ik il jk jl kl =
    (in3 i j k l ij ik il, (in2 j k l jk jl, (in1 k l kl, (λ y m. absurd (Memᴰ.not-nil m), tt))))
  where
    in1 : (a b : Corner) → (a ≡ b → ⊥) → (y : Corner) → y ∈ (b ∷ []) → a ≡ y → ⊥
    in1 a b n y m q = n (q ∙ Memᴰ.eq_of_singleton m)

    in2 : (a b c : Corner) → (a ≡ b → ⊥) → (a ≡ c → ⊥) → (y : Corner) → y ∈ (b ∷ c ∷ []) → a ≡ y → ⊥
    in2 a b c n o y m q = ⊎_elim (λ e. n (q ∙ e)) (λ r. in1 a c o y r q) (Memᴰ.cases_cons m)

    in3 : (a b c d : Corner) → (a ≡ b → ⊥) → (a ≡ c → ⊥) → (a ≡ d → ⊥) → (y : Corner) → y ∈ (b ∷ c ∷ d ∷ []) → a ≡ y → ⊥
    in3 a b c d n o p y m q = ⊎_elim (λ e. n (q ∙ e)) (λ r. in2 a c d o p y r q) (Memᴰ.cases_cons m)

-- Every triangle of every tetrahedron looks out.
pub every_looks_out : (rows : List Row) → ascending (keys_of rows) ≡ true → EveryLooksOut rows
unfolding good apart3 free forward
every_looks_out rows up t f m n =
    let w : Corner → Bool = λ c. inside_at rows (at t c) in
    let p : Way (vertex_of (closed_edges rows) t) (left_of t) w f =
    way_by (vertex_of (closed_edges rows) t) (left_of t) w f (subst (λ (l : List (Three ℕ)). f ∈ l) (turned_here rows up t m) n) in
    let i : Corner = p.i in
    let j : Corner = p.j in
    let k : Corner = p.k in
    let o : Corner = other i j k in
    let d : apart3 i j k ≡ true = and_first (apart3 i j k) (unlike (w i) (w j) && (unlike (w i) (w k) && forward (left_of t) i j k (w i))) p.fine in
    let r1 = and_second (apart3 i j k) (unlike (w i) (w j) && (unlike (w i) (w k) && forward (left_of t) i j k (w i))) p.fine in
    let xj = and_first (unlike (w i) (w j)) (unlike (w i) (w k) && forward (left_of t) i j k (w i)) r1 in
    let r2 = and_second (unlike (w i) (w j)) (unlike (w i) (w k) && forward (left_of t) i j k (w i)) r1 in
    let xk = and_first (unlike (w i) (w k)) (forward (left_of t) i j k (w i)) r2 in
    let fw : forward (left_of t) i j k (w i) ≡ true = and_second (unlike (w i) (w k)) (forward (left_of t) i j k (w i)) r2 in
    let ij : eqc i j ≡ false = not-true (eqc i j) (and_first (not (eqc i j)) (not (eqc i k) && not (eqc j k)) d) in
    let rest = and_second (not (eqc i j)) (not (eqc i k) && not (eqc j k)) d in
    let ik : eqc i k ≡ false = not-true (eqc i k) (and_first (not (eqc i k)) (not (eqc j k)) rest) in
    let jk : eqc j k ≡ false = not-true (eqc j k) (and_second (not (eqc i k)) (not (eqc j k)) rest) in
    let g = other_free i j k d in
    let io : eqc i o ≡ false = not-true (eqc i o) (and_first (not (eqc i o)) (not (eqc j o) && not (eqc k o)) g) in
    let g2 = and_second (not (eqc i o)) (not (eqc j o) && not (eqc k o)) g in
    let jo : eqc j o ≡ false = not-true (eqc j o) (and_first (not (eqc j o)) (not (eqc k o)) g2) in
    let ko : eqc k o ≡ false = not-true (eqc k o) (and_second (not (eqc j o)) (not (eqc k o)) g2) in
    let hand : unlike (left_handed (at t i) (at t j) (at t k) (at t o)) (w i) ≡ true =
    subst (λ (b : Bool). unlike b (w i) ≡ true) (sym (in_any_order t (clique_in rows up t m) i j k d)) fw in
    record {
      i = i;
      j = j;
      k = k;
      l = o;
      facing = record {
        listed = m;
        all = four_differ i j k o (differ i j ij) (differ i k ik) (differ i o io) (differ j k jk) (differ j o jo) (differ k o ko);
        j_crossed = xj;
        k_crossed = xk;
        hand = hand;
      };
      way = p.way;
    }
