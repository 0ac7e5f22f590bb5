-- On which side of a face its tetrahedra lie: two that share it lie on opposite sides, and the handedness of four corners named in any order.
-- Assumes nothing.
use Prim.Native.Nat.{ℕ, ◌+◌}
use native.Mathlib.Omega.{arith}
use mathlib.Core.Path.{◌≡◌, refl, sym, ap, ◌∙◌, subst}
use mathlib.Core.Logic.{inl, inr, ⊎_elim}
use mathlib.Core.Bool.{Bool, true, false, not, ◌&&◌, false≢true}
use lib.Dec.{ltb}
use lib.Ieee.{unlike}
use borrow.Author.Tests.{lt-ltb, le-ltb, not-true}
use Rattle.ids.specs.Key.{head_of, x_of, y_of, z_of}
use Rattle.ids.proofs.KeyLaws.{same_key}
use Rattle.lists.proofs.Bools.{and_first, and_second}
use Rattle.tetrahedra.specs.Fours.{Four, Corner, c0, c1, c2, c3, at, Rising}
use Rattle.tetrahedra.specs.Tetrahedra.{axial, diagonal}
use Rattle.tetrahedra.proofs.Lattice.{Along, Straight, axial_along, Slants, Beside, Turned, level, turned, by_g, by_h, half_way, across, same_at, diagonal_sym, Ringed, settled_y, settled_z, in_x, in_y, in_z, near_x, near_y, near_z, first_ring, second_ring, third_ring, to_first, to_second, to_third, Clique, CliqueOf, Splits, clique_splits}
use Rattle.tetrahedra.proofs.Corners.{eqc, every_corner, at_corner, if_then, corner_holds, corners_same, other, free, pick, apart3, other_test, other_tests, Fourth, fourth, same_fourth}
use Rattle.winding.specs.Spots.{cell_spot, triple, plus_terms, in_front}
use Rattle.winding.specs.Facing.{left_handed}
use Rattle.winding.specs.Steps.{left_of}
use Rattle.winding.proofs.Running.{odd_order, forward}
use Rattle.winding.proofs.Volume.{first_terms, last_terms, tri, cycle, vol, mirrored, axes_1, axes_2, Far, far_both, swapped, far_second, far_third}

-- ---- along one axis the pair p, q; r a point of its ring, and u, v points of the ring that are axial to r

module _ (f g h : ℕ → ℕ) (settled : (k l : ℕ) → head_of k ≡ head_of l → f k ≡ f l → g k ≡ g l → h k ≡ h l → k ≡ l) (p q r : ℕ) (pq : Along f g h p q)
    (pr : Slants f g h settled p r) (qr : Slants f g h settled q r) where
  abbrev Near : ℕ → Type 0
  Near u = Beside f g h settled p q r pq pr qr u

  -- not flat
  far_near : (u : ℕ) → Near u → Far (vol f g h p q r u) (vol f g h q p r u)
  unfolding Turned
  far_near u b =
      let e = level f g h settled p q r pq pr qr u b in
      let gq = same_at (g p) (g q) pq.1 in
      let hq = same_at (h p) (h q) pq.2 in
      ⊎_elim (λ t. far_second f g h p q r u pq.0 gq hq e t.0 t.1 pr.z) (λ t. far_third f g h p q r u pq.0 gq hq e t.0 t.1 pr.y)
      (turned f g h settled p q r pq pr qr u b)

  record Sums (u v : ℕ) : Type 0 where
    f_sum : f u + f v ≡ f p + f q
    g_sum : g u + g v ≡ g p + g q
    h_sum : h u + h v ≡ h p + h q

  across_sum : (a b c d : ℕ) → a + b ≡ c + c → a ≡ d → b + d ≡ c + c
  across_sum a b c d e e' = omega arith

  -- the middle of two that differ is the middle of p and q
  sums : (u v : ℕ) → Near u → Near v → (u ≡ v → ⊥) → Sums u v
  unfolding Turned
  sums u v bu bv un = go (turned f g h settled p q r pq pr qr u bu) (turned f g h settled p q r pq pr qr v bv)
    where
      fs : f u + f v ≡ f p + f q
      fs =
          let a = level f g h settled p q r pq pr qr u bu in
          let b = level f g h settled p q r pq pr qr v bv in
          let c = half_way (f p) (f q) (f r) pq.0 pr.x qr.x in
          rw (← a, ← b) c

      gq : g p ≡ g q
      gq = same_at (g p) (g q) pq.1

      hq : h p ≡ h q
      hq = same_at (h p) (h q) pq.2

      sum : (c d n : ℕ) → n ≡ c + c → c ≡ d → n ≡ c + d
      sum c d n e e' = omega arith

      other_way : (a b n : ℕ) → a + b ≡ n → b + a ≡ n
      other_way a b n e = omega arith

      go : Turned f g h settled p q r pq pr qr u → Turned f g h settled p q r pq pr qr v → Sums u v
      go (inl a) (inl b) = absurd (un (by_g f g h settled p q r pq pr qr u v bu bv a.0 a.1 b.0 b.1))
      go (inr a) (inr b) = absurd (un (by_h f g h settled p q r pq pr qr u v bu bv a.0 a.1 b.0 b.1))
      go (inl a) (inr b) =
          let y = across (g p) (g r) (g u) pr.y bu.pu.y a.0 in
          let z = across (h p) (h r) (h v) pr.z bv.pu.z b.1 in
          record {
            f_sum = fs;
            g_sum = sum (g p) (g q) (g u + g v) (across_sum (g r) (g u) (g p) (g v) y b.0) gq;
            h_sum = sum (h p) (h q) (h u + h v) (other_way (h v) (h u) (h p + h p) (across_sum (h r) (h v) (h p) (h u) z a.1)) hq;
          }
      go (inr a) (inl b) =
          let y = across (g p) (g r) (g v) pr.y bv.pu.y b.0 in
          let z = across (h p) (h r) (h u) pr.z bu.pu.z a.1 in
          record {
            f_sum = fs;
            g_sum = sum (g p) (g q) (g u + g v) (other_way (g v) (g u) (g p + g p) (across_sum (g r) (g v) (g p) (g u) y a.0)) gq;
            h_sum = sum (h p) (h q) (h u + h v) (across_sum (h r) (h u) (h p) (h v) z b.1) hq;
          }

-- ---- in x, y, z

unfoldable pub plus_of : ℕ → ℕ → ℕ → ℕ → ℕ
unfolding plus_terms
plus_of k l m n = plus_terms (cell_spot k) (cell_spot l) (cell_spot m) (cell_spot n)

vol_plus : (k l m n : ℕ) → vol x_of y_of z_of k l m n ≡ plus_of k l m n
unfolding tri plus_of plus_terms triple
vol_plus k l m n = refl

plus_first : (k l m n : ℕ) → plus_of l m k n ≡ plus_of k l m n
plus_first k l m n = sym (vol_plus l m k n) ∙ first_terms (tri x_of y_of z_of) (cycle x_of y_of z_of) k l m n ∙ vol_plus k l m n

abbrev Flat : ℕ → ℕ → ℕ → ℕ → Type 0
Flat p q r u = Far (plus_of p q r u) (plus_of q p r u)

abbrev Balanced : ℕ → ℕ → ℕ → ℕ → ℕ → Type 0
Balanced p q r u v = plus_of p q r u + plus_of p q r v ≡ plus_of q p r u + plus_of q p r v

module _ (p q r : ℕ) (pr : diagonal p r ≡ true) (qr : diagonal q r ≡ true) where
  from_y : (k l m n : ℕ) → vol y_of x_of z_of k l m n ≡ plus_of l k m n
  from_y k l m n = axes_1 x_of y_of z_of k l m n ∙ vol_plus l k m n

  from_z : (k l m n : ℕ) → vol z_of x_of y_of k l m n ≡ plus_of k l m n
  from_z k l m n = axes_1 x_of z_of y_of k l m n ∙ axes_2 x_of y_of z_of l k m n ∙ vol_plus k l m n

  ring_flat : axial p q ≡ true → (u : ℕ) → Ringed p q r u → Flat p q r u
  ring_flat pq u b = go (axial_along p q pq)
    where
      go : Straight x_of y_of z_of p q → Far (plus_of p q r u) (plus_of q p r u)
      go (inl a) =
          far_both (vol_plus p q r u) (vol_plus q p r u)
          (far_near x_of y_of z_of same_key p q r a (in_x p r pr) (in_x q r qr) u (near_x p q r pr qr a u b))
      go (inr (inl a)) =
          swapped (far_both (from_y p q r u) (from_y q p r u)
          (far_near y_of x_of z_of settled_y p q r a (in_y p r pr) (in_y q r qr) u (near_y p q r pr qr a u b)))
      go (inr (inr a)) =
          far_both (from_z p q r u) (from_z q p r u)
          (far_near z_of x_of y_of settled_z p q r a (in_z p r pr) (in_z q r qr) u (near_z p q r pr qr a u b))

  balance : (u v : ℕ) → x_of u + x_of v ≡ x_of p + x_of q → y_of u + y_of v ≡ y_of p + y_of q → z_of u + z_of v ≡ z_of p + z_of q → Balanced p q r u v
  balance u v x y z =
      rw (← vol_plus p q r u, ← vol_plus p q r v, ← vol_plus q p r u, ← vol_plus q p r v) (mirrored x_of y_of z_of p q r u v x y z)

  ring_balanced : axial p q ≡ true → (u v : ℕ) → Ringed p q r u → Ringed p q r v → (u ≡ v → ⊥) → Balanced p q r u v
  ring_balanced pq u v b c un = go (axial_along p q pq)
    where
      go : Straight x_of y_of z_of p q → Balanced p q r u v
      go (inl a) =
          let s = sums x_of y_of z_of same_key p q r a (in_x p r pr) (in_x q r qr) u v (near_x p q r pr qr a u b) (near_x p q r pr qr a v c) un in
          balance u v s.f_sum s.g_sum s.h_sum
      go (inr (inl a)) =
          let s = sums y_of x_of z_of settled_y p q r a (in_y p r pr) (in_y q r qr) u v (near_y p q r pr qr a u b) (near_y p q r pr qr a v c) un in
          balance u v s.g_sum s.f_sum s.h_sum
      go (inr (inr a)) =
          let s = sums z_of x_of y_of settled_z p q r a (in_z p r pr) (in_z q r qr) u v (near_z p q r pr qr a u b) (near_z p q r pr qr a v c) un in
          balance u v s.g_sum s.h_sum s.f_sum

-- ---- whichever pair of a face is the axial one

module _ (p q r : ℕ) where
  prq : (n : ℕ) → plus_of p r q n ≡ plus_of q p r n
  prq n = plus_first q p r n

  rpq : (n : ℕ) → plus_of r p q n ≡ plus_of p q r n
  rpq n = plus_first q r p n ∙ plus_first p q r n

  qrp : (n : ℕ) → plus_of q r p n ≡ plus_of p q r n
  qrp n = plus_first p q r n

  rqp : (n : ℕ) → plus_of r q p n ≡ plus_of q p r n
  rqp n = plus_first p r q n ∙ plus_first q p r n

  -- four pairwise adjacent cells do not lie in a plane
  pub clique_flat : (u : ℕ) → Clique p q r u → Flat p q r u
  clique_flat u c = go (clique_splits p q r u c)
    where
      go : Splits p q r u → Far (plus_of p q r u) (plus_of q p r u)
      go (inl s) = ring_flat p q r s.km s.lm s.kl u (first_ring p q r u s)
      go (inr (inl s)) = swapped (far_both (prq u) (rpq u) (ring_flat p r q s.km s.lm s.kl u (second_ring p q r u s)))
      go (inr (inr s)) =
          far_both (qrp u) (rqp u) (ring_flat q r p (diagonal_sym p q s.km) (diagonal_sym p r s.kn) s.mn u (third_ring p q r u s))

  pub clique_balanced : (u v : ℕ) → Clique p q r u → Clique p q r v → (u ≡ v → ⊥) → Balanced p q r u v
  clique_balanced u v cu cv un = go (clique_splits p q r u cu) (clique_splits p q r v cv)
    where
      go : Splits p q r u → Splits p q r v → Balanced p q r u v
      go (inl s) y = ring_balanced p q r s.km s.lm s.kl u v (first_ring p q r u s) (to_first p q r s.kl v y) un
      go (inr (inl s)) y =
          let b = ring_balanced p r q s.km s.lm s.kl u v (second_ring p q r u s) (to_second p q r s.kl v y) un in
          omega (arith, b, prq u, prq v, rpq u, rpq v)
      go (inr (inr s)) y =
          let b = ring_balanced q r p (diagonal_sym p q s.km) (diagonal_sym p r s.kn) s.mn u v (third_ring p q r u s)
          (to_third p q r s.mn v y) un in
          omega (arith, b, qrp u, qrp v, rqp u, rqp v)

not_less : (a b c d : ℕ) → Far a b → a + c ≡ b + d → ltb a b ≡ not (ltb c d)
not_less a b c d (inl e) s = rw (le-ltb a b (omega arith), lt-ltb c d (omega arith))
not_less a b c d (inr e) s = rw (lt-ltb a b (omega arith), le-ltb c d (omega arith))

-- W1: of two different common neighbours of three pairwise adjacent cells one lies on either side
pub two_sides : (p q r u v : ℕ) → Clique p q r u → Clique p q r v → (u ≡ v → ⊥) → left_handed p q r u ≡ not (left_handed p q r v)
unfolding left_handed in_front plus_of
two_sides p q r u v cu cv un =
    not_less (plus_of p q r u) (plus_of q p r u) (plus_of p q r v) (plus_of q p r v) (clique_flat p q r u cu) (clique_balanced p q r u v cu cv un)

-- ---- the corners in any order

pub unlike_false : (a : Bool) → unlike a false ≡ a
unlike_false true = refl
unlike_false false = refl

far_flip : (e o : ℕ) → Far e o → ltb o e ≡ unlike (ltb e o) true
far_flip e o (inl q) = rw (lt-ltb o e (omega arith), le-ltb e o (omega arith))
far_flip e o (inr q) = rw (le-ltb o e (omega arith), lt-ltb e o (omega arith))

even_case : (e o m n : ℕ) → m ≡ e → n ≡ o → ltb m n ≡ unlike (ltb e o) false
even_case e o m n p q = rw (p, q) (sym (unlike_false (ltb e o)))

odd_case : (e o m n : ℕ) → Far e o → m ≡ o → n ≡ e → ltb m n ≡ unlike (ltb e o) true
odd_case e o m n d p q = rw (p, q) (far_flip e o d)

plus_last : (k l m n : ℕ) → plus_of k m n l ≡ plus_of k l m n
plus_last k l m n = sym (vol_plus k m n l) ∙ last_terms (tri x_of y_of z_of) (cycle x_of y_of z_of) k l m n ∙ vol_plus k l m n

module _ (t : Four) (cl : CliqueOf t) where
  abbrev a : ℕ
  a = t.a

  abbrev b : ℕ
  b = t.b

  abbrev c : ℕ
  c = t.c

  abbrev d : ℕ
  d = t.d

  abbrev e : ℕ
  e = plus_of a b c d

  abbrev o : ℕ
  o = plus_of b a c d

  apart_eo : Far e o
  apart_eo = clique_flat a b c d cl

  pub in_any_order : (i j k : Corner) → apart3 i j k ≡ true
      → left_handed (at t i) (at t j) (at t k) (at t (other i j k)) ≡ unlike (left_of t) (odd_order i j k (other i j k))
  unfolding left_handed in_front plus_of apart3 odd_order other pick free
  in_any_order c0 c0 c0 h = absurd (false≢true h)
  in_any_order c0 c0 c1 h = absurd (false≢true h)
  in_any_order c0 c0 c2 h = absurd (false≢true h)
  in_any_order c0 c0 c3 h = absurd (false≢true h)
  in_any_order c0 c1 c0 h = absurd (false≢true h)
  in_any_order c0 c1 c1 h = absurd (false≢true h)
  in_any_order c0 c1 c2 h = even_case e o (plus_of a b c d) (plus_of b a c d) refl refl
  in_any_order c0 c1 c3 h =
      odd_case e o (plus_of a b d c) (plus_of b a d c) apart_eo (plus_last a c b d ∙ plus_first b a c d)
      (plus_last b c a d ∙ plus_first a b c d)
  in_any_order c0 c2 c0 h = absurd (false≢true h)
  in_any_order c0 c2 c1 h =
      odd_case e o (plus_of a c b d) (plus_of c a b d) apart_eo (plus_first b a c d)
      (plus_first b c a d ∙ plus_first a b c d)
  in_any_order c0 c2 c2 h = absurd (false≢true h)
  in_any_order c0 c2 c3 h =
      even_case e o (plus_of a c d b) (plus_of c a d b) (plus_last a b c d)
      (plus_last c b a d ∙ plus_first a c b d ∙ plus_first b a c d)
  in_any_order c0 c3 c0 h = absurd (false≢true h)
  in_any_order c0 c3 c1 h =
      even_case e o (plus_of a d b c) (plus_of d a b c) (plus_last a c d b ∙ plus_last a b c d)
      (plus_first b d a c ∙ plus_last b c d a ∙ plus_last b a c d)
  in_any_order c0 c3 c2 h =
      odd_case e o (plus_of a d c b) (plus_of d a c b) apart_eo (plus_last a b d c ∙ plus_last a c b d ∙ plus_first b a c d)
      (plus_first c d a b ∙ plus_first a c d b ∙ plus_last a b c d)
  in_any_order c0 c3 c3 h = absurd (false≢true h)
  in_any_order c1 c0 c0 h = absurd (false≢true h)
  in_any_order c1 c0 c1 h = absurd (false≢true h)
  in_any_order c1 c0 c2 h = odd_case e o (plus_of b a c d) (plus_of a b c d) apart_eo refl refl
  in_any_order c1 c0 c3 h =
      even_case e o (plus_of b a d c) (plus_of a b d c) (plus_last b c a d ∙ plus_first a b c d)
      (plus_last a c b d ∙ plus_first b a c d)
  in_any_order c1 c1 c0 h = absurd (false≢true h)
  in_any_order c1 c1 c1 h = absurd (false≢true h)
  in_any_order c1 c1 c2 h = absurd (false≢true h)
  in_any_order c1 c1 c3 h = absurd (false≢true h)
  in_any_order c1 c2 c0 h =
      even_case e o (plus_of b c a d) (plus_of c b a d) (plus_first a b c d)
      (plus_first a c b d ∙ plus_first b a c d)
  in_any_order c1 c2 c1 h = absurd (false≢true h)
  in_any_order c1 c2 c2 h = absurd (false≢true h)
  in_any_order c1 c2 c3 h =
      odd_case e o (plus_of b c d a) (plus_of c b d a) apart_eo (plus_last b a c d)
      (plus_last c a b d ∙ plus_first b c a d ∙ plus_first a b c d)
  in_any_order c1 c3 c0 h =
      odd_case e o (plus_of b d a c) (plus_of d b a c) apart_eo (plus_last b c d a ∙ plus_last b a c d)
      (plus_first a d b c ∙ plus_last a c d b ∙ plus_last a b c d)
  in_any_order c1 c3 c1 h = absurd (false≢true h)
  in_any_order c1 c3 c2 h =
      even_case e o (plus_of b d c a) (plus_of d b c a) (plus_last b a d c ∙ plus_last b c a d ∙ plus_first a b c d)
      (plus_first c d b a ∙ plus_first b c d a ∙ plus_last b a c d)
  in_any_order c1 c3 c3 h = absurd (false≢true h)
  in_any_order c2 c0 c0 h = absurd (false≢true h)
  in_any_order c2 c0 c1 h =
      even_case e o (plus_of c a b d) (plus_of a c b d) (plus_first b c a d ∙ plus_first a b c d)
      (plus_first b a c d)
  in_any_order c2 c0 c2 h = absurd (false≢true h)
  in_any_order c2 c0 c3 h =
      odd_case e o (plus_of c a d b) (plus_of a c d b) apart_eo (plus_last c b a d ∙ plus_first a c b d ∙ plus_first b a c d)
      (plus_last a b c d)
  in_any_order c2 c1 c0 h =
      odd_case e o (plus_of c b a d) (plus_of b c a d) apart_eo (plus_first a c b d ∙ plus_first b a c d)
      (plus_first a b c d)
  in_any_order c2 c1 c1 h = absurd (false≢true h)
  in_any_order c2 c1 c2 h = absurd (false≢true h)
  in_any_order c2 c1 c3 h =
      even_case e o (plus_of c b d a) (plus_of b c d a) (plus_last c a b d ∙ plus_first b c a d ∙ plus_first a b c d)
      (plus_last b a c d)
  in_any_order c2 c2 c0 h = absurd (false≢true h)
  in_any_order c2 c2 c1 h = absurd (false≢true h)
  in_any_order c2 c2 c2 h = absurd (false≢true h)
  in_any_order c2 c2 c3 h = absurd (false≢true h)
  in_any_order c2 c3 c0 h =
      even_case e o (plus_of c d a b) (plus_of d c a b) (plus_first a c d b ∙ plus_last a b c d)
      (plus_first a d c b ∙ plus_last a b d c ∙ plus_last a c b d ∙ plus_first b a c d)
  in_any_order c2 c3 c1 h =
      odd_case e o (plus_of c d b a) (plus_of d c b a) apart_eo (plus_first b c d a ∙ plus_last b a c d)
      (plus_first b d c a ∙ plus_last b a d c ∙ plus_last b c a d ∙ plus_first a b c d)
  in_any_order c2 c3 c2 h = absurd (false≢true h)
  in_any_order c2 c3 c3 h = absurd (false≢true h)
  in_any_order c3 c0 c0 h = absurd (false≢true h)
  in_any_order c3 c0 c1 h =
      odd_case e o (plus_of d a b c) (plus_of a d b c) apart_eo (plus_first b d a c ∙ plus_last b c d a ∙ plus_last b a c d)
      (plus_last a c d b ∙ plus_last a b c d)
  in_any_order c3 c0 c2 h =
      even_case e o (plus_of d a c b) (plus_of a d c b) (plus_first c d a b ∙ plus_first a c d b ∙ plus_last a b c d)
      (plus_last a b d c ∙ plus_last a c b d ∙ plus_first b a c d)
  in_any_order c3 c0 c3 h = absurd (false≢true h)
  in_any_order c3 c1 c0 h =
      even_case e o (plus_of d b a c) (plus_of b d a c) (plus_first a d b c ∙ plus_last a c d b ∙ plus_last a b c d)
      (plus_last b c d a ∙ plus_last b a c d)
  in_any_order c3 c1 c1 h = absurd (false≢true h)
  in_any_order c3 c1 c2 h =
      odd_case e o (plus_of d b c a) (plus_of b d c a) apart_eo (plus_first c d b a ∙ plus_first b c d a ∙ plus_last b a c d)
      (plus_last b a d c ∙ plus_last b c a d ∙ plus_first a b c d)
  in_any_order c3 c1 c3 h = absurd (false≢true h)
  in_any_order c3 c2 c0 h =
      odd_case e o (plus_of d c a b) (plus_of c d a b) apart_eo (plus_first a d c b ∙ plus_last a b d c ∙ plus_last a c b d ∙ plus_first b a c d)
      (plus_first a c d b ∙ plus_last a b c d)
  in_any_order c3 c2 c1 h =
      even_case e o (plus_of d c b a) (plus_of c d b a) (plus_first b d c a ∙ plus_last b a d c ∙ plus_last b c a d ∙ plus_first a b c d)
      (plus_first b c d a ∙ plus_last b a c d)
  in_any_order c3 c2 c2 h = absurd (false≢true h)
  in_any_order c3 c2 c3 h = absurd (false≢true h)
  in_any_order c3 c3 c0 h = absurd (false≢true h)
  in_any_order c3 c3 c1 h = absurd (false≢true h)
  in_any_order c3 c3 c2 h = absurd (false≢true h)
  in_any_order c3 c3 c3 h = absurd (false≢true h)

-- ---- the fourth corner

pub other_free : (i j k : Corner) → apart3 i j k ≡ true → free i j k (other i j k) ≡ true
unfolding other_test
other_free i j k =
    if_then (apart3 i j k) (free i j k (other i j k))
    (at_corner (λ k. other_test i j k)
    (at_corner (λ j. every_corner (λ k. other_test i j k)) (at_corner (λ i. every_corner (λ j. every_corner (λ k. other_test i j k))) other_tests i) j) k)

module _ (t : Four) (up : Rising t) (cl : CliqueOf t) (i j k : Corner) (d : apart3 i j k ≡ true) where
  apart_keys : (x y : Corner) → eqc x y ≡ false → at t x ≡ at t y → ⊥
  apart_keys x y n q = false≢true (sym n ∙ corners_same t up x y q)

  pub fourth_corner : Fourth t (at t i) (at t j) (at t k) (at t (other i j k))
  unfolding apart3 free
  fourth_corner =
      let o : Corner = other i j k in
      let ij : eqc i j ≡ false = not-true (eqc i j) (and_first (not (eqc i j)) (not (eqc i k) && not (eqc j k)) d) in
      let rest = and_second (not (eqc i j)) (not (eqc i k) && not (eqc j k)) d in
      let ik : eqc i k ≡ false = not-true (eqc i k) (and_first (not (eqc i k)) (not (eqc j k)) rest) in
      let jk : eqc j k ≡ false = not-true (eqc j k) (and_second (not (eqc i k)) (not (eqc j k)) rest) in
      let f = other_free i j k d in
      let io : eqc i o ≡ false = not-true (eqc i o) (and_first (not (eqc i o)) (not (eqc j o) && not (eqc k o)) f) in
      let g = and_second (not (eqc i o)) (not (eqc j o) && not (eqc k o)) f in
      let jo : eqc j o ≡ false = not-true (eqc j o) (and_first (not (eqc j o)) (not (eqc k o)) g) in
      let ko : eqc k o ≡ false = not-true (eqc k o) (and_second (not (eqc j o)) (not (eqc k o)) g) in
      let w =
      fourth t up cl (at t i) (at t j) (at t k) (corner_holds t i refl) (corner_holds t j refl) (corner_holds t k refl) (apart_keys i j ij) (apart_keys i k ik)
      (apart_keys j k jk) in
      let same : at t o ≡ w.0 =
      ⊎_elim (λ q. absurd (apart_keys i o io (sym q)))
      (λ r. ⊎_elim (λ q. absurd (apart_keys j o jo (sym q))) (λ s. ⊎_elim (λ q. absurd (apart_keys k o ko (sym q))) (λ q. q) s) r) (w.1.only o) in
      subst (λ (n : ℕ). Fourth t (at t i) (at t j) (at t k) n) (sym same) w.1

turn_about : (a b c : Bool) → a ≡ not b → unlike a c ≡ not (unlike b c)
turn_about a true true e = rw e
turn_about a true false e = rw e
turn_about a false true e = rw e
turn_about a false false e = rw e

-- two tetrahedra that share a face lie on opposite sides of it, so their triangles run through its side in opposite directions
pub opposite_ways : (t x : Four) → Rising t → Rising x → CliqueOf t → CliqueOf x → (i j k i' j' k' : Corner) → apart3 i j k ≡ true → apart3 i' j' k' ≡ true
    → at x i' ≡ at t i → at x j' ≡ at t j → at x k' ≡ at t k → (t ≡ x → ⊥) → (b : Bool) → forward (left_of t) i j k b ≡ not (forward (left_of x) i' j' k' b)
unfolding forward
opposite_ways t x tup xup tc xc i j k i' j' k' d d' ei ej ek un b =
    let o : ℕ = at t (other i j k) in
    let o' : ℕ = at x (other i' j' k') in
    let f : Fourth t (at t i) (at t j) (at t k) o = fourth_corner t tup tc i j k d in
    let g : Fourth x (at t i) (at t j) (at t k) o' =
    subst (λ (n : ℕ). Fourth x n (at t j) (at t k) o') ei
    (subst (λ (n : ℕ). Fourth x (at x i') n (at t k) o') ej
    (subst (λ (n : ℕ). Fourth x (at x i') (at x j') n o') ek (fourth_corner x xup xc i' j' k' d'))) in
    let differ : o ≡ o' → ⊥ =
    λ q. un (same_fourth t x (at t i) (at t j) (at t k) o' tup xup (subst (λ (n : ℕ). Fourth t (at t i) (at t j) (at t k) n) q f) g) in
    let two = two_sides (at t i) (at t j) (at t k) o o' f.clique g.clique differ in
    let a = in_any_order t tc i j k d in
    let c : left_handed (at t i) (at t j) (at t k) o' ≡ unlike (left_of x) (odd_order i' j' k' (other i' j' k')) =
    subst (λ (n : ℕ). left_handed n (at t j) (at t k) o' ≡ unlike (left_of x) (odd_order i' j' k' (other i' j' k'))) ei
    (subst (λ (n : ℕ). left_handed (at x i') n (at t k) o' ≡ unlike (left_of x) (odd_order i' j' k' (other i' j' k'))) ej
    (subst (λ (n : ℕ). left_handed (at x i') (at x j') n o' ≡ unlike (left_of x) (odd_order i' j' k' (other i' j' k'))) ek (in_any_order x xc i' j' k' d'))) in
    turn_about (unlike (left_of t) (odd_order i j k (other i j k))) (unlike (left_of x) (odd_order i' j' k' (other i' j' k'))) b (sym a ∙ two ∙ ap not c)
