-- The lattice: four cells are a tetrahedron exactly when they are pairwise adjacent, and three pairwise adjacent cells have at most two common neighbours.
-- Assumes nothing.
use Prim.Native.Nat.{ℕ, ◌+◌, ◌-◌, ◌%◌}
use native.Mathlib.Omega.{arith}
use mathlib.Core.Path.{◌≡◌, refl, sym, ◌∙◌}
use mathlib.Core.Logic.{◌⊎◌, inl, inr, ⊎_elim, ◌↔◌}
use mathlib.Core.Bool.{Bool, true, false, ◌&&◌, ◌||◌, false≢true, or-true}
use lib.Dec.{eqb}
use borrow.Author.Tests.{eqb-true}
use Rattle.ids.specs.Key.{head_of, x_of, y_of, z_of}
use Rattle.ids.proofs.KeyLaws.{same_key}
use native.Mathlib.Nat.{add_comm}
use Rattle.lists.proofs.Bools.{and_first, and_second, or_cases, eqb_comm}
use Rattle.neighbors.specs.Neighbors.{apart, one_step, adjacent}
use Rattle.neighbors.proofs.Adjacency.{adjacent_sym}
use Rattle.tetrahedra.specs.Fours.{Four}
use Rattle.tetrahedra.specs.Tetrahedra.{straight, slanted, axial, diagonal, shaped, tetrahedron}

-- ---- steps

-- an adjacent cell is axial or diagonal
or_apart : (h d s : Bool) → h && (d || s) ≡ true → (h && s ≡ true) ⊎ (h && d ≡ true)
or_apart true true s e = inr refl
or_apart true false s e = inl e
or_apart false d s e = absurd (false≢true e)

pub step_apart : (k l : ℕ) → adjacent k l ≡ true → (axial k l ≡ true) ⊎ (diagonal k l ≡ true)
unfolding adjacent one_step axial diagonal straight slanted
step_apart k l e =
    or_apart (eqb (head_of k) (head_of l)) (slanted (apart (x_of k) (x_of l)) (apart (y_of k) (y_of l)) (apart (z_of k) (z_of l)))
    (straight (apart (x_of k) (x_of l)) (apart (y_of k) (y_of l)) (apart (z_of k) (z_of l))) e

and_right : (h d s : Bool) → h && s ≡ true → h && (d || s) ≡ true
and_right true true s e = refl
and_right true false s e = e
and_right false d s e = e

and_left : (h d s : Bool) → h && d ≡ true → h && (d || s) ≡ true
and_left true true s e = refl
and_left true false s e = absurd (false≢true e)
and_left false d s e = e

pub axial_adjacent : (k l : ℕ) → axial k l ≡ true → adjacent k l ≡ true
unfolding adjacent one_step axial straight slanted
axial_adjacent k l e =
    and_right (eqb (head_of k) (head_of l)) (slanted (apart (x_of k) (x_of l)) (apart (y_of k) (y_of l)) (apart (z_of k) (z_of l)))
    (straight (apart (x_of k) (x_of l)) (apart (y_of k) (y_of l)) (apart (z_of k) (z_of l))) e

pub diagonal_adjacent : (k l : ℕ) → diagonal k l ≡ true → adjacent k l ≡ true
unfolding adjacent one_step diagonal straight slanted
diagonal_adjacent k l e =
    and_left (eqb (head_of k) (head_of l)) (slanted (apart (x_of k) (x_of l)) (apart (y_of k) (y_of l)) (apart (z_of k) (z_of l)))
    (straight (apart (x_of k) (x_of l)) (apart (y_of k) (y_of l)) (apart (z_of k) (z_of l))) e

swap : (k l : ℕ) → adjacent k l ≡ true → adjacent l k ≡ true
swap k l e = adjacent_sym l k ∙ e

-- what the tests say of the coordinates
pub record Slant (k l : ℕ) : Type 0 where
  pub heads : head_of k ≡ head_of l
  pub x : apart (x_of k) (x_of l) ≡ 1
  pub y : apart (y_of k) (y_of l) ≡ 1
  pub z : apart (z_of k) (z_of l) ≡ 1

three_tests : (a b c i j h : ℕ) → (eqb a i && (eqb b j && eqb c h)) ≡ true → (a ≡ i) × (b ≡ j) × (c ≡ h)
three_tests a b c i j h e =
    let s = and_second (eqb a i) (eqb b j && eqb c h) e in
    (eqb-true a i (and_first (eqb a i) (eqb b j && eqb c h) e), eqb-true b j (and_first (eqb b j) (eqb c h) s), eqb-true c h (and_second (eqb b j) (eqb c h) s))

pub slant : (k l : ℕ) → diagonal k l ≡ true → Slant k l
unfolding diagonal slanted
slant k l e =
    let a = apart (x_of k) (x_of l) in
    let b = apart (y_of k) (y_of l) in
    let c = apart (z_of k) (z_of l) in
    let h = eqb (head_of k) (head_of l) in
    let t = three_tests a b c 1 1 1 (and_second h (slanted a b c) e) in
    record { heads = eqb-true (head_of k) (head_of l) (and_first h (slanted a b c) e); x = t.0; y = t.1; z = t.2 }

-- by 2 along f, and not at all along g and h
abbrev pub Along : (f g h : ℕ → ℕ) → ℕ → ℕ → Type 0
Along f g h k l = (apart (f k) (f l) ≡ 2) × (apart (g k) (g l) ≡ 0) × (apart (h k) (h l) ≡ 0)

abbrev pub Straight : (f g h : ℕ → ℕ) → ℕ → ℕ → Type 0
Straight f g h k l = Along f g h k l ⊎ (Along g f h k l ⊎ Along h f g k l)

pub axial_heads : (k l : ℕ) → axial k l ≡ true → head_of k ≡ head_of l
unfolding axial
axial_heads k l e = eqb-true (head_of k) (head_of l) (and_first (eqb (head_of k) (head_of l)) _ e)

pub axial_along : (k l : ℕ) → axial k l ≡ true → Straight x_of y_of z_of k l
unfolding axial straight
axial_along k l e =
    let a = apart (x_of k) (x_of l) in
    let b = apart (y_of k) (y_of l) in
    let c = apart (z_of k) (z_of l) in
    let t : ℕ → ℕ → ℕ → Bool = λ i j h. eqb a i && (eqb b j && eqb c h) in
    let s : (t 2 0 0 || (t 0 2 0 || t 0 0 2)) ≡ true = and_second (eqb (head_of k) (head_of l)) (straight a b c) e in
    ⊎_elim (λ d. inl (three_tests a b c 2 0 0 d))
    (λ r. ⊎_elim (λ d. let q = three_tests a b c 0 2 0 d in inr (inl (q.1, q.0, q.2)))
    (λ d. let q = three_tests a b c 0 0 2 d in inr (inr (q.2, q.0, q.1)))
    (or_cases (t 0 2 0) (t 0 0 2) r))
    (or_cases (t 2 0 0) (t 0 2 0 || t 0 0 2) s)

-- ---- the two colours of cells: by the parity of x

axial_colour : (k l : ℕ) → axial k l ≡ true → x_of k % 2 ≡ x_of l % 2
axial_colour k l e =
    ⊎_elim (λ p. omega (arith, p.0)) (λ r. ⊎_elim (λ p. omega (arith, p.1)) (λ p. omega (arith, p.1)) r) (axial_along k l e)

diagonal_colour : (k l : ℕ) → diagonal k l ≡ true → x_of k % 2 + x_of l % 2 ≡ 1
diagonal_colour k l e = omega (arith, (slant k l e).x)

axial_by : (k l : ℕ) → adjacent k l ≡ true → x_of k % 2 ≡ x_of l % 2 → axial k l ≡ true
axial_by k l a c =
    ⊎_elim (λ e. e) (λ e. let d = diagonal_colour k l e in let no : ⊥ = omega arith in absurd no) (step_apart k l a)

diagonal_by : (k l : ℕ) → adjacent k l ≡ true → x_of k % 2 + x_of l % 2 ≡ 1 → diagonal k l ≡ true
diagonal_by k l a c =
    ⊎_elim (λ e. let d = axial_colour k l e in let no : ⊥ = omega arith in absurd no) (λ e. e) (step_apart k l a)

-- ---- no three cells are pairwise axial: along each axis the three distances make up 0 or 4, and 2 + 2 + 2 is neither

abbrev ZeroTwo : ℕ → Type 0
ZeroTwo n = (n ≡ 0) ⊎ (n ≡ 2)

record Sized (k l : ℕ) : Type 0 where
  x : ZeroTwo (apart (x_of k) (x_of l))
  y : ZeroTwo (apart (y_of k) (y_of l))
  z : ZeroTwo (apart (z_of k) (z_of l))
  all : apart (x_of k) (x_of l) + apart (y_of k) (y_of l) + apart (z_of k) (z_of l) ≡ 2

sized : (k l : ℕ) → axial k l ≡ true → Sized k l
sized k l e =
    ⊎_elim (λ p. record { x = inr p.0; y = inl p.1; z = inl p.2; all = rw (p.0, p.1, p.2) })
    (λ r. ⊎_elim (λ p. record { x = inl p.1; y = inr p.0; z = inl p.2; all = rw (p.0, p.1, p.2) })
    (λ p. record { x = inl p.1; y = inl p.2; z = inr p.0; all = rw (p.0, p.1, p.2) }) r) (axial_along k l e)

axis_sum : (p q r : ℕ) → ZeroTwo (apart p q) → ZeroTwo (apart q r) → ZeroTwo (apart p r) → (apart p q + apart q r + apart p r) % 4 ≡ 0
axis_sum p q r (inl a) (inl b) (inl c) = rw (a, b, c)
axis_sum p q r (inl a) (inl b) (inr c) = let no : ⊥ = omega arith in absurd no
axis_sum p q r (inl a) (inr b) (inl c) = let no : ⊥ = omega arith in absurd no
axis_sum p q r (inl a) (inr b) (inr c) = rw (a, b, c)
axis_sum p q r (inr a) (inl b) (inl c) = let no : ⊥ = omega arith in absurd no
axis_sum p q r (inr a) (inl b) (inr c) = rw (a, b, c)
axis_sum p q r (inr a) (inr b) (inl c) = rw (a, b, c)
axis_sum p q r (inr a) (inr b) (inr c) = let no : ⊥ = omega arith in absurd no

-- three multiples of 4 do not make up 6
not_six : (x y z : ℕ) → x + y + z ≡ 6 → x % 4 ≡ 0 → y % 4 ≡ 0 → z % 4 ≡ 0 → ⊥
not_six x y z s p q r = omega arith

by_columns : (a b c d e f g h i : ℕ) → a + b + c ≡ 2 → d + e + f ≡ 2 → g + h + i ≡ 2 → (a + d + g) + (b + e + h) + (c + f + i) ≡ 6
by_columns a b c d e f g h i p q r = omega arith

no_three_axial : (k l m : ℕ) → axial k l ≡ true → axial l m ≡ true → axial k m ≡ true → ⊥
no_three_axial k l m p q r =
    let s = sized k l p in
    let t = sized l m q in
    let u = sized k m r in
    not_six _ _ _ (by_columns _ _ _ _ _ _ _ _ _ s.all t.all u.all)
    (axis_sum (x_of k) (x_of l) (x_of m) s.x t.x u.x) (axis_sum (y_of k) (y_of l) (y_of m) s.y t.y u.y)
    (axis_sum (z_of k) (z_of l) (z_of m) s.z t.z u.z)

-- ---- four pairwise adjacent cells

pub record Clique (k l m n : ℕ) : Type 0 where
  pub kl : adjacent k l ≡ true
  pub km : adjacent k m ≡ true
  pub kn : adjacent k n ≡ true
  pub lm : adjacent l m ≡ true
  pub ln : adjacent l n ≡ true
  pub mn : adjacent m n ≡ true

-- what the shape says, edge by edge
pub record Shape (k l m n : ℕ) : Type 0 where
  pub kl : axial k l ≡ true
  pub mn : axial m n ≡ true
  pub km : diagonal k m ≡ true
  pub lm : diagonal l m ≡ true
  pub kn : diagonal k n ≡ true
  pub ln : diagonal l n ≡ true

shaped_shape : (k l m n : ℕ) → shaped k l m n ≡ true → Shape k l m n
unfolding shaped
shaped_shape k l m n e =
    let r = and_second (axial k l) _ e in
    let q = and_second (axial m n) _ r in
    let i = and_first (diagonal k m && diagonal l m) _ q in
    let j = and_second (diagonal k m && diagonal l m) _ q in
    record {
      kl = and_first (axial k l) _ e;
      mn = and_first (axial m n) _ r;
      km = and_first (diagonal k m) _ i;
      lm = and_second (diagonal k m) _ i;
      kn = and_first (diagonal k n) _ j;
      ln = and_second (diagonal k n) _ j;
    }

shape_shaped : (k l m n : ℕ) → Shape k l m n → shaped k l m n ≡ true
unfolding shaped
shape_shaped k l m n s = rw (s.kl, s.mn, s.km, s.lm, s.kn, s.ln)

-- an axial pair, with the other two a slanted step from its first
shape_by : (k l m n : ℕ) → Clique k l m n → axial k l ≡ true → diagonal k m ≡ true → diagonal k n ≡ true → Shape k l m n
shape_by k l m n c p q r =
    let a = axial_colour k l p in
    let b = diagonal_colour k m q in
    let d = diagonal_colour k n r in
    record {
      kl = p;
      mn = axial_by m n c.mn (omega arith);
      km = q;
      lm = diagonal_by l m c.lm (omega arith);
      kn = r;
      ln = diagonal_by l n c.ln (omega arith);
    }

-- the three ways to split four cells in two pairs
abbrev pub Splits : ℕ → ℕ → ℕ → ℕ → Type 0
Splits k l m n = Shape k l m n ⊎ (Shape k m l n ⊎ Shape k n l m)

-- two axial steps from one cell
two_axial : (k l m : ℕ) → adjacent l m ≡ true → axial k l ≡ true → axial k m ≡ true → ⊥
two_axial k l m a p q =
    let x = axial_colour k l p in
    let y = axial_colour k m q in
    no_three_axial k l m p (axial_by l m a (omega arith)) q

pub clique_splits : (k l m n : ℕ) → Clique k l m n → Splits k l m n
clique_splits k l m n c = go (step_apart k l c.kl) (step_apart k m c.km) (step_apart k n c.kn)
  where
    go : (axial k l ≡ true) ⊎ (diagonal k l ≡ true) → (axial k m ≡ true) ⊎ (diagonal k m ≡ true) → (axial k n ≡ true) ⊎ (diagonal k n ≡ true) → Splits k l m n
    go (inl p) (inl q) r = absurd (two_axial k l m c.lm p q)
    go (inl p) (inr q) (inl r) = absurd (two_axial k l n c.ln p r)
    go (inl p) (inr q) (inr r) = inl (shape_by k l m n c p q r)
    go (inr p) (inl q) (inl r) = absurd (two_axial k m n c.mn q r)
    go (inr p) (inl q) (inr r) =
        inr (inl (shape_by k m l n (record { kl = c.km; km = c.kl; kn = c.kn; lm = swap l m c.lm; ln = c.mn; mn = c.ln }) q p r))
    go (inr p) (inr q) (inl r) =
        inr (inr (shape_by k n l m (record { kl = c.kn; km = c.kl; kn = c.km; lm = swap l n c.ln; ln = swap m n c.mn; mn = c.lm }) r p q))
    go (inr p) (inr q) (inr r) =
        let x = diagonal_colour k l p in
        let y = diagonal_colour k m q in
        let z = diagonal_colour k n r in
        absurd (no_three_axial l m n (axial_by l m c.lm (omega arith)) (axial_by m n c.mn (omega arith)) (axial_by l n c.ln (omega arith)))

-- ---- G1: the document's shape is four pairwise adjacent cells

abbrev pub CliqueOf : Four → Type 0
CliqueOf t = Clique t.a t.b t.c t.d

pub clique_tetrahedron : (t : Four) → CliqueOf t → tetrahedron t ≡ true
unfolding tetrahedron
clique_tetrahedron t c =
    let a = shaped t.a t.b t.c t.d in
    let b = shaped t.a t.c t.b t.d in
    ⊎_elim (λ s. rw (shape_shaped t.a t.b t.c t.d s))
    (λ r. ⊎_elim (λ s. rw (shape_shaped t.a t.c t.b t.d s) (or-true a))
    (λ s. rw (shape_shaped t.a t.d t.b t.c s, or-true b) (or-true a)) r)
    (clique_splits t.a t.b t.c t.d c)

shape_clique : (k l m n : ℕ) → Shape k l m n → Clique k l m n
shape_clique k l m n s =
    record {
      kl = axial_adjacent k l s.kl;
      km = diagonal_adjacent k m s.km;
      kn = diagonal_adjacent k n s.kn;
      lm = diagonal_adjacent l m s.lm;
      ln = diagonal_adjacent l n s.ln;
      mn = axial_adjacent m n s.mn;
    }

pub tetrahedron_clique : (t : Four) → tetrahedron t ≡ true → CliqueOf t
unfolding tetrahedron
tetrahedron_clique t e =
    ⊎_elim (λ p. shape_clique _ _ _ _ (shaped_shape _ _ _ _ p))
    (λ r. ⊎_elim
    (λ p. let c = shape_clique _ _ _ _ (shaped_shape t.a t.c t.b t.d p) in
    record { kl = c.km; km = c.kl; kn = c.kn; lm = swap _ _ c.lm; ln = c.mn; mn = c.ln })
    (λ p. let c = shape_clique _ _ _ _ (shaped_shape t.a t.d t.b t.c p) in
    record { kl = c.km; km = c.kn; kn = c.kl; lm = c.mn; ln = swap _ _ c.lm; mn = swap _ _ c.ln })
    (or_cases _ _ r))
    (or_cases (shaped t.a t.b t.c t.d) _ e)

-- four cells are a tetrahedron exactly when they are pairwise adjacent
pub tetrahedron_is_clique : (t : Four) → (tetrahedron t ≡ true) ↔ CliqueOf t
tetrahedron_is_clique t = (tetrahedron_clique t, clique_tetrahedron t)

-- ---- G2: three pairwise adjacent cells have at most two common neighbours

not_both : (k l : ℕ) → axial k l ≡ true → diagonal k l ≡ true → ⊥
not_both k l a d = let x = axial_colour k l a in let y = diagonal_colour k l d in omega arith

-- no distance is none
pub same_at : (a b : ℕ) → apart a b ≡ 0 → a ≡ b
same_at a b e = omega arith

-- between two that are 2 apart there is one place
pub half_way : (p q r : ℕ) → apart p q ≡ 2 → apart p r ≡ 1 → apart q r ≡ 1 → r + r ≡ p + q
half_way p q r a b c = omega arith

halved : (r u n : ℕ) → r + r ≡ n → u + u ≡ n → r ≡ u
halved r u n a b = omega arith

pub middle : (p q r u : ℕ) → apart p q ≡ 2 → apart p r ≡ 1 → apart q r ≡ 1 → apart p u ≡ 1 → apart q u ≡ 1 → r ≡ u
middle p q r u a b c d e = halved r u (p + q) (half_way p q r a b c) (half_way p q u a d e)

-- beside p there are two places, and u and v are both the one that r isn't
pub across : (p r u : ℕ) → apart p r ≡ 1 → apart p u ≡ 1 → apart r u ≡ 2 → r + u ≡ p + p
across p r u a b c = omega arith

doubled : (r u v p : ℕ) → r + u ≡ p + p → r + v ≡ p + p → u ≡ v
doubled r u v p a b = omega arith

opposite : (p r u v : ℕ) → apart p r ≡ 1 → apart p u ≡ 1 → apart p v ≡ 1 → apart r u ≡ 2 → apart r v ≡ 2 → u ≡ v
opposite p r u v a b c d e = doubled r u v p (across p r u a b d) (across p r v a c e)

-- along f the pair p, q; r is a point of its ring
module _ (f g h : ℕ → ℕ) (settled : (k l : ℕ) → head_of k ≡ head_of l → f k ≡ f l → g k ≡ g l → h k ≡ h l → k ≡ l) where
  pub record Slants (k l : ℕ) : Type 0 where
    pub heads : head_of k ≡ head_of l
    pub x : apart (f k) (f l) ≡ 1
    pub y : apart (g k) (g l) ≡ 1
    pub z : apart (h k) (h l) ≡ 1

  module _ (p q r : ℕ) (pq : Along f g h p q) (pr : Slants p r) (qr : Slants q r) where
    -- a point of the ring that is axial to r
    pub record Beside (u : ℕ) : Type 0 where
      pub pu : Slants p u
      pub qu : Slants q u
      pub ru : Straight f g h r u

    unfoldable pub Turned : ℕ → Type 0
    Turned u = ((apart (g r) (g u) ≡ 2) × (h r ≡ h u)) ⊎ ((g r ≡ g u) × (apart (h r) (h u) ≡ 2))

    pub level : (u : ℕ) → Beside u → f r ≡ f u
    level u b = middle (f p) (f q) (f r) (f u) pq.0 pr.x qr.x b.pu.x b.qu.x

    pub turned : (u : ℕ) → Beside u → Turned u
    unfolding Turned
    turned u b =
        ⊎_elim (λ a. let e = level u b in let d = a.0 in let no : ⊥ = omega arith in absurd no)
        (λ s. ⊎_elim (λ a. inl (a.0, same_at (h r) (h u) a.2)) (λ a. inr (same_at (g r) (g u) a.2, a.0)) s) b.ru

    heads_of : (u v : ℕ) → Beside u → Beside v → head_of u ≡ head_of v
    heads_of u v b c = sym b.pu.heads ∙ c.pu.heads

    pub by_g : (u v : ℕ) → Beside u → Beside v → apart (g r) (g u) ≡ 2 → h r ≡ h u → apart (g r) (g v) ≡ 2 → h r ≡ h v → u ≡ v
    by_g u v b c d e d' e' =
        settled u v (heads_of u v b c) (sym (level u b) ∙ level v c)
        (opposite (g p) (g r) (g u) (g v) pr.y b.pu.y c.pu.y d d') (sym e ∙ e')

    pub by_h : (u v : ℕ) → Beside u → Beside v → g r ≡ g u → apart (h r) (h u) ≡ 2 → g r ≡ g v → apart (h r) (h v) ≡ 2 → u ≡ v
    by_h u v b c e d e' d' =
        settled u v (heads_of u v b c) (sym (level u b) ∙ level v c) (sym e ∙ e')
        (opposite (h p) (h r) (h u) (h v) pr.z b.pu.z c.pu.z d d')

    -- of three, two are the same
    two_alike : (u v w : ℕ) → Beside u → Beside v → Beside w → (u ≡ v) ⊎ ((u ≡ w) ⊎ (v ≡ w))
    unfolding Turned
    two_alike u v w bu bv bw = go (turned u bu) (turned v bv) (turned w bw)
      where
        go : Turned u → Turned v → Turned w → (u ≡ v) ⊎ ((u ≡ w) ⊎ (v ≡ w))
        go (inl a) (inl b) c = inl (by_g u v bu bv a.0 a.1 b.0 b.1)
        go (inl a) (inr b) (inl c) = inr (inl (by_g u w bu bw a.0 a.1 c.0 c.1))
        go (inl a) (inr b) (inr c) = inr (inr (by_h v w bv bw b.0 b.1 c.0 c.1))
        go (inr a) (inr b) c = inl (by_h u v bu bv a.0 a.1 b.0 b.1)
        go (inr a) (inl b) (inr c) = inr (inl (by_h u w bu bw a.0 a.1 c.0 c.1))
        go (inr a) (inl b) (inl c) = inr (inr (by_g v w bv bw b.0 b.1 c.0 c.1))

-- the tests do not turn on which cell is named first
pub diagonal_sym : (k l : ℕ) → diagonal k l ≡ true → diagonal l k ≡ true
unfolding diagonal
diagonal_sym k l e =
    rw (eqb_comm (head_of l) (head_of k), add_comm (x_of l - x_of k), add_comm (y_of l - y_of k), add_comm (z_of l - z_of k)) e

pub axial_sym : (k l : ℕ) → axial k l ≡ true → axial l k ≡ true
unfolding axial
axial_sym k l e =
    rw (eqb_comm (head_of l) (head_of k), add_comm (x_of l - x_of k), add_comm (y_of l - y_of k), add_comm (z_of l - z_of k)) e

-- a point u of the ring around p, q that is axial to r
pub record Ringed (p q r u : ℕ) : Type 0 where
  pub pu : diagonal p u ≡ true
  pub qu : diagonal q u ≡ true
  pub ru : axial r u ≡ true

to_y : (k l : ℕ) → Straight x_of y_of z_of k l → Straight y_of x_of z_of k l
to_y k l (inl a) = inr (inl a)
to_y k l (inr (inl a)) = inl a
to_y k l (inr (inr a)) = inr (inr (a.0, a.2, a.1))

to_z : (k l : ℕ) → Straight x_of y_of z_of k l → Straight z_of x_of y_of k l
to_z k l (inl a) = inr (inl (a.0, a.2, a.1))
to_z k l (inr (inl a)) = inr (inr (a.0, a.2, a.1))
to_z k l (inr (inr a)) = inl a

Alike : ℕ → ℕ → ℕ → Type 0
Alike u v w = (u ≡ v) ⊎ ((u ≡ w) ⊎ (v ≡ w))

-- ---- along each axis

pub settled_y : (k l : ℕ) → head_of k ≡ head_of l → y_of k ≡ y_of l → x_of k ≡ x_of l → z_of k ≡ z_of l → k ≡ l
settled_y k l h y x z = same_key k l h x y z

pub settled_z : (k l : ℕ) → head_of k ≡ head_of l → z_of k ≡ z_of l → x_of k ≡ x_of l → y_of k ≡ y_of l → k ≡ l
settled_z k l h z x y = same_key k l h x y z

pub in_x : (k l : ℕ) → diagonal k l ≡ true → Slants x_of y_of z_of same_key k l
in_x k l e = let s = slant k l e in record { heads = s.heads; x = s.x; y = s.y; z = s.z }

pub in_y : (k l : ℕ) → diagonal k l ≡ true → Slants y_of x_of z_of settled_y k l
in_y k l e = let s = slant k l e in record { heads = s.heads; x = s.y; y = s.x; z = s.z }

pub in_z : (k l : ℕ) → diagonal k l ≡ true → Slants z_of x_of y_of settled_z k l
in_z k l e = let s = slant k l e in record { heads = s.heads; x = s.z; y = s.x; z = s.y }

module _ (p q r : ℕ) (pr : diagonal p r ≡ true) (qr : diagonal q r ≡ true) where
  pub near_x : (a : Along x_of y_of z_of p q) (u : ℕ) → Ringed p q r u → Beside x_of y_of z_of same_key p q r a (in_x p r pr) (in_x q r qr) u
  near_x a u b = record { pu = in_x p u b.pu; qu = in_x q u b.qu; ru = axial_along r u b.ru }

  pub near_y : (a : Along y_of x_of z_of p q) (u : ℕ) → Ringed p q r u → Beside y_of x_of z_of settled_y p q r a (in_y p r pr) (in_y q r qr) u
  near_y a u b = record { pu = in_y p u b.pu; qu = in_y q u b.qu; ru = to_y r u (axial_along r u b.ru) }

  pub near_z : (a : Along z_of x_of y_of p q) (u : ℕ) → Ringed p q r u → Beside z_of x_of y_of settled_z p q r a (in_z p r pr) (in_z q r qr) u
  near_z a u b = record { pu = in_z p u b.pu; qu = in_z q u b.qu; ru = to_z r u (axial_along r u b.ru) }

-- at most two points of the ring are axial to a third
ring_two : (p q r u v w : ℕ) → axial p q ≡ true → diagonal p r ≡ true → diagonal q r ≡ true → Ringed p q r u → Ringed p q r v → Ringed p q r w → Alike u v w
unfolding Alike
ring_two p q r u v w pq pr qr bu bv bw = go (axial_along p q pq)
  where
    go : Straight x_of y_of z_of p q → (u ≡ v) ⊎ ((u ≡ w) ⊎ (v ≡ w))
    go (inl a) =
        let near = near_x p q r pr qr a in
        two_alike x_of y_of z_of same_key p q r a (in_x p r pr) (in_x q r qr) u v w (near u bu) (near v bv) (near w bw)
    go (inr (inl a)) =
        let near = near_y p q r pr qr a in
        two_alike y_of x_of z_of settled_y p q r a (in_y p r pr) (in_y q r qr) u v w (near u bu) (near v bv) (near w bw)
    go (inr (inr a)) =
        let near = near_z p q r pr qr a in
        two_alike z_of x_of y_of settled_z p q r a (in_z p r pr) (in_z q r qr) u v w (near u bu) (near v bv) (near w bw)

-- ---- whichever pair of a face is the axial one

module _ (p q r : ℕ) where
  pub first_ring : (t : ℕ) → Shape p q r t → Ringed p q r t
  first_ring t s = record { pu = s.kn; qu = s.ln; ru = s.mn }

  pub second_ring : (t : ℕ) → Shape p r q t → Ringed p r q t
  second_ring t s = record { pu = s.kn; qu = s.ln; ru = s.mn }

  pub third_ring : (t : ℕ) → Shape p t q r → Ringed q r p t
  third_ring t s = record { pu = diagonal_sym t q s.lm; qu = diagonal_sym t r s.ln; ru = s.kl }

  pub to_first : axial p q ≡ true → (t : ℕ) → Splits p q r t → Ringed p q r t
  to_first a t (inl s) = first_ring t s
  to_first a t (inr (inl s)) = absurd (not_both p q a s.km)
  to_first a t (inr (inr s)) = absurd (not_both p q a s.km)

  pub to_second : axial p r ≡ true → (t : ℕ) → Splits p q r t → Ringed p r q t
  to_second a t (inl s) = absurd (not_both p r a s.km)
  to_second a t (inr (inl s)) = second_ring t s
  to_second a t (inr (inr s)) = absurd (not_both p r a s.kn)

  pub to_third : axial q r ≡ true → (t : ℕ) → Splits p q r t → Ringed q r p t
  to_third a t (inl s) = absurd (not_both q r a s.lm)
  to_third a t (inr (inl s)) = absurd (not_both q r a (diagonal_sym r q s.lm))
  to_third a t (inr (inr s)) = third_ring t s

-- of three common neighbours of three pairwise adjacent cells two are the same
pub common_two : (p q r u v w : ℕ) → Clique p q r u → Clique p q r v → Clique p q r w → (u ≡ v) ⊎ ((u ≡ w) ⊎ (v ≡ w))
unfolding Alike
common_two p q r u v w cu cv cw = go (clique_splits p q r u cu) (clique_splits p q r v cv) (clique_splits p q r w cw)
  where
    go : Splits p q r u → Splits p q r v → Splits p q r w → (u ≡ v) ⊎ ((u ≡ w) ⊎ (v ≡ w))
    go (inl s) y z =
        ring_two p q r u v w s.kl s.km s.lm (first_ring p q r u s) (to_first p q r s.kl v y) (to_first p q r s.kl w z)
    go (inr (inl s)) y z =
        ring_two p r q u v w s.kl s.km s.lm (second_ring p q r u s) (to_second p q r s.kl v y) (to_second p q r s.kl w z)
    go (inr (inr s)) y z =
        ring_two q r p u v w s.mn (diagonal_sym p q s.km) (diagonal_sym p r s.kn) (third_ring p q r u s) (to_third p q r s.mn v y)
        (to_third p q r s.mn w z)

-- ---- two facts beside

-- Of the three ways to split a tetrahedron in two pairs one alone has axial pairs: it has two axial pairs, and counts once all the same.
pub one_split : (k l m n : ℕ) → Shape k l m n → (Shape k m l n → ⊥) × (Shape k n l m → ⊥)
one_split k l m n s = (λ r. not_both k l s.kl r.km, λ r. not_both k l s.kl r.km)

-- No five cells are pairwise adjacent.
pub no_five : (k l m n o : ℕ) → Clique k l m n → Clique k l m o → adjacent n o ≡ true → ⊥
no_five k l m n o p q a =
    ⊎_elim (λ s. no k l m n s q.kn q.ln q.mn a)
    (λ r. ⊎_elim (λ s. no k m l n s q.kn q.mn q.ln a) (λ s. no k n l m s q.kn a q.ln q.mn) r)
    (clique_splits k l m n p)
  where
    -- o has the colour of one pair or of the other
    no : (x y z w : ℕ) → Shape x y z w → adjacent x o ≡ true → adjacent y o ≡ true → adjacent z o ≡ true → adjacent w o ≡ true → ⊥
    no x y z w s xo yo zo wo =
        ⊎_elim (λ e. two_axial x y o yo s.kl e)
        (λ e.
        let c = diagonal_colour x o e in
        let d = diagonal_colour x z s.km in
        two_axial z w o wo s.mn (axial_by z o zo (omega arith)))
        (step_apart x o xo)
