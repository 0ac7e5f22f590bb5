-- The determinant as two sums of products: exchanges, the mirror image, and that it is 4 away from 0.
-- Assumes nothing.
use Prim.Native.Nat.{ℕ, ◌+◌, ◌*◌}
use native.Mathlib.Omega.{arith}
use mathlib.Core.Path.{◌≡◌, ap}
use mathlib.Core.Logic.{◌⊎◌, inl, inr, ⊎_elim}
use Rattle.floats.proofs.Values.{le_or_lt}
use Rattle.neighbors.specs.Neighbors.{apart}

times_left : (c u v p q : ℕ) → u + v ≡ p + q → c * u + c * v ≡ c * p + c * q
times_left c u v p q e = omega (arith, ap (λ (s : ℕ). c * s) e)

times_right : (c u v p q : ℕ) → u + v ≡ p + q → u * c + v * c ≡ p * c + q * c
times_right c u v p q e = omega (arith, ap (λ (s : ℕ). s * c) e)

-- ---- over any T that is the same turned round: the terms of a determinant, the points kept shut

module _ {P : Type 0} (T : P → P → P → ℕ) (round : (a b c : P) → T b c a ≡ T a b c) where
  abbrev pub terms : P → P → P → P → ℕ
  terms k l m n = T l m n + (T k n m + (T k l n + T k m l))

  -- even permutations
  pub first_terms : (k l m n : P) → terms l m k n ≡ terms k l m n
  first_terms k l m n = omega (arith, round k l m, round k n m, round k l n, round l m n, round m k n, round l k m, round l n k)

  pub last_terms : (k l m n : P) → terms k m n l ≡ terms k l m n
  last_terms k l m n = omega (arith, round l m n, round m n l)

-- ---- of three coordinates

module _ {P : Type 0} (f g h : P → ℕ) where
  unfoldable pub tri : P → P → P → ℕ
  tri a b c = f a * (g b * h c) + (f b * (g c * h a) + f c * (g a * h b))

  pub cycle : (a b c : P) → tri b c a ≡ tri a b c
  unfolding tri
  cycle a b c = omega arith

  abbrev pub vol : P → P → P → P → ℕ
  vol k l m n = terms tri cycle k l m n

  -- the sum in one place
  tri_sum : (a b u v p q : P) → f u + f v ≡ f p + f q → g u + g v ≡ g p + g q → h u + h v ≡ h p + h q → tri a b u + tri a b v ≡ tri a b p + tri a b q
  unfolding tri
  tri_sum a b u v p q x y z =
      omega (
        arith,
        times_left (f a) (g b * h u) (g b * h v) (g b * h p) (g b * h q) (times_left (g b) (h u) (h v) (h p) (h q) z),
        times_left (f b) (g u * h a) (g v * h a) (g p * h a) (g q * h a) (times_right (h a) (g u) (g v) (g p) (g q) y),
        times_right (g a * h b) (f u) (f v) (f p) (f q) x,
      )

  -- with u and v on either side of the middle of p and q
  pub mirrored : (p q r u v : P) → f u + f v ≡ f p + f q → g u + g v ≡ g p + g q → h u + h v ≡ h p + h q → vol p q r u + vol p q r v ≡ vol q p r u + vol q p r v
  mirrored p q r u v x y z =
      let s : (a b : P) → tri a b u + tri a b v ≡ tri a b p + tri a b q = λ a b. tri_sum a b u v p q x y z in
      omega (
        arith,
        s q r,
        s r p,
        s p q,
        s p r,
        s r q,
        s q p,
        cycle r p u,
        cycle r p v,
        cycle r q u,
        cycle r q v,
        cycle p q r,
        cycle q r p,
        cycle p r q,
        cycle r q p,
        cycle r q q,
        cycle q r q,
        cycle p r p,
        cycle r p p,
        cycle p q p,
        cycle q p p,
        cycle p q q,
        cycle q q p,
      )

-- two axes exchanged
tri_1 : (f g h : ℕ → ℕ) (a b c : ℕ) → tri g f h a b c ≡ tri f g h b a c
unfolding tri
tri_1 f g h a b c = omega arith

tri_2 : (f g h : ℕ → ℕ) (a b c : ℕ) → tri f h g a b c ≡ tri f g h b a c
unfolding tri
tri_2 f g h a b c = omega arith

pub axes_1 : (f g h : ℕ → ℕ) (k l m n : ℕ) → vol g f h k l m n ≡ vol f g h l k m n
axes_1 f g h k l m n =
    omega (
      arith,
      tri_1 f g h l m n,
      tri_1 f g h k n m,
      tri_1 f g h k l n,
      tri_1 f g h k m l,
      cycle f g h m l n,
      cycle f g h n k m,
      cycle f g h l m k,
      cycle f g h m k l,
    )

pub axes_2 : (f g h : ℕ → ℕ) (k l m n : ℕ) → vol f h g k l m n ≡ vol f g h l k m n
axes_2 f g h k l m n =
    omega (
      arith,
      tri_2 f g h l m n,
      tri_2 f g h k n m,
      tri_2 f g h k l n,
      tri_2 f g h k m l,
      cycle f g h m l n,
      cycle f g h n k m,
      cycle f g h l m k,
      cycle f g h m k l,
    )

abbrev pub Far : ℕ → ℕ → Type 0
Far m n = (m ≡ n + 4) ⊎ (n ≡ m + 4)

-- ---- over numbers: p and q along the first axis, r and u along the second

abbrev tri9 : (af ag ah bf bg bh cf cg ch : ℕ) → ℕ
tri9 af ag ah bf bg bh cf cg ch = af * (bg * ch) + (bf * (cg * ah) + cf * (ag * bh))

abbrev vol8 : (pf qf pg ph rf rg ug rh : ℕ) → ℕ
vol8 pf qf pg ph rf rg ug rh =
    tri9 qf pg ph rf rg rh rf ug rh + (tri9 pf pg ph rf ug rh rf rg rh + (tri9 pf pg ph qf pg ph rf ug rh + tri9 pf pg ph rf rg rh qf pg ph))

far_1 : (pf pg ph rf ug : ℕ) → vol8 pf (pf + 2) pg ph rf (ug + 2) ug (ph + 1) ≡ vol8 (pf + 2) pf pg ph rf (ug + 2) ug (ph + 1) + 4
far_1 pf pg ph rf ug = omega arith

far_2 : (pf pg rh rf ug : ℕ) → vol8 (pf + 2) pf pg (rh + 1) rf (ug + 2) ug rh ≡ vol8 pf (pf + 2) pg (rh + 1) rf (ug + 2) ug rh + 4
far_2 pf pg rh rf ug = omega arith

far_3 : (pf pg ph rf rg : ℕ) → vol8 (pf + 2) pf pg ph rf rg (rg + 2) (ph + 1) ≡ vol8 pf (pf + 2) pg ph rf rg (rg + 2) (ph + 1) + 4
far_3 pf pg ph rf ug = omega arith

far_4 : (pf pg rh rf rg : ℕ) → vol8 pf (pf + 2) pg (rh + 1) rf rg (rg + 2) rh ≡ vol8 (pf + 2) pf pg (rh + 1) rf rg (rg + 2) rh + 4
far_4 pf pg rh rf ug = omega arith

either_2 : (a b : ℕ) → apart a b ≡ 2 → (a ≡ b + 2) ⊎ (b ≡ a + 2)
either_2 a b e = ⊎_elim (λ l. inr (omega arith)) (λ l. inl (omega arith)) (le_or_lt a b)

either_1 : (a b : ℕ) → apart a b ≡ 1 → (a ≡ b + 1) ⊎ (b ≡ a + 1)
either_1 a b e = ⊎_elim (λ l. inr (omega arith)) (λ l. inl (omega arith)) (le_or_lt a b)

far_8 : (pf qf pg ph rf rg ug rh : ℕ) → apart pf qf ≡ 2 → apart rg ug ≡ 2 → apart ph rh ≡ 1 → Far (vol8 pf qf pg ph rf rg ug rh) (vol8 qf pf pg ph rf rg ug rh)
far_8 pf qf pg ph rf rg ug rh x y z = go (either_2 pf qf x) (either_2 rg ug y) (either_1 ph rh z)
  where
    go : (pf ≡ qf + 2) ⊎ (qf ≡ pf + 2) → (rg ≡ ug + 2) ⊎ (ug ≡ rg + 2) → (ph ≡ rh + 1) ⊎ (rh ≡ ph + 1)
        → Far (vol8 pf qf pg ph rf rg ug rh) (vol8 qf pf pg ph rf rg ug rh)
    go (inr a) (inl b) (inr c) = rw (a, b, c) (inl (far_1 pf pg ph rf ug))
    go (inl a) (inl b) (inr c) = rw (a, b, c) (inr (far_1 qf pg ph rf ug))
    go (inl a) (inl b) (inl c) = rw (a, b, c) (inl (far_2 qf pg rh rf ug))
    go (inr a) (inl b) (inl c) = rw (a, b, c) (inr (far_2 pf pg rh rf ug))
    go (inl a) (inr b) (inr c) = rw (a, b, c) (inl (far_3 qf pg ph rf rg))
    go (inr a) (inr b) (inr c) = rw (a, b, c) (inr (far_3 pf pg ph rf rg))
    go (inr a) (inr b) (inl c) = rw (a, b, c) (inl (far_4 pf pg rh rf rg))
    go (inl a) (inr b) (inl c) = rw (a, b, c) (inr (far_4 qf pg rh rf rg))

pub far_second : (f g h : ℕ → ℕ) (p q r u : ℕ) → apart (f p) (f q) ≡ 2 → g p ≡ g q → h p ≡ h q → f r ≡ f u → apart (g r) (g u) ≡ 2 → h r ≡ h u
    → apart (h p) (h r) ≡ 1 → Far (vol f g h p q r u) (vol f g h q p r u)
unfolding tri
far_second f g h p q r u a gq hq fu b hu c =
    rw (← gq, ← hq, ← fu, ← hu) (far_8 (f p) (f q) (g p) (h p) (f r) (g r) (g u) (h r) a b c)

pub swapped : {m n : ℕ} → Far m n → Far n m
swapped (inl e) = inr e
swapped (inr e) = inl e

pub far_both : {m n m' n' : ℕ} → m ≡ m' → n ≡ n' → Far m n → Far m' n'
far_both p q (inl e) = inl (omega arith)
far_both p q (inr e) = inr (omega arith)

-- and r and u along the third
pub far_third : (f g h : ℕ → ℕ) (p q r u : ℕ) → apart (f p) (f q) ≡ 2 → g p ≡ g q → h p ≡ h q → f r ≡ f u → g r ≡ g u → apart (h r) (h u) ≡ 2
    → apart (g p) (g r) ≡ 1 → Far (vol f g h p q r u) (vol f g h q p r u)
far_third f g h p q r u a gq hq fu gu b c =
    swapped (far_both (axes_2 f g h p q r u) (axes_2 f g h q p r u) (far_second f h g p q r u a hq gq fu b gu c))
