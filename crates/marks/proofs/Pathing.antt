-- The path of a label: it begins among the places, meets each once, and goes on to the following place. Assumes nothing.
use mathlib.Core.Path.{◌≡◌, refl, sym, ◌∙◌}
use mathlib.Core.Bool.{Bool, true, false, cond, ◌&&◌, ◌||◌}
use mathlib.Core.Logic.{◌⊎◌, inl, inr}
use Prim.Native.Nat.{ℕ, ◌+◌, ◌*◌, ◌/◌, ◌%◌, ◌<◌, ◌≤◌}
use native.Mathlib.Nat.{mul-le-mul}
use native.Mathlib.Omega.{arith}
use borrow.Author.Tests.{eqb-true, eqb-false, ltb-true, ltb-false, lt-ltb, le-ltb, le-leb, lt-leb}
use lib.Dec.{eqb, leb, ltb}
use Rattle.lists.proofs.Bools.{cases, both_ways}
use Rattle.marks.specs.Marks.{packed, mixed, home, along, following, comes_first}

-- ---- its home

pub product : (a b : ℕ) → a < 4294967296 → a * b ≤ 4294967295 * b
product a b p = let q : a ≤ 4294967295 = omega arith in mul-le-mul q (let r : b ≤ b = omega arith in r)

pub home_within : (k n : ℕ) → home k n ≤ n
unfolding home
home_within k n =
    cases (λ (b : Bool). cond b 0 (mixed (packed k / 8) * (n / 8 % 4294967296) / 4294967296 * 8 + packed k % 8) ≤ n) (ltb n 8)
    (λ e. omega arith)
    (λ e. go (mixed (packed k / 8)) (omega arith) (packed k) (ltb-false n 8 e))
  where
    go : (m : ℕ) → m < 4294967296 → (c : ℕ) → 8 ≤ n → m * (n / 8 % 4294967296) / 4294967296 * 8 + c % 8 ≤ n
    go m l c e = let p = product m (n / 8 % 4294967296) l in omega arith

-- ---- its places

-- two places are one, or they are not
pub one_or_two : {P : Type 0} (q i : ℕ) → (q ≡ i → P) → ((q ≡ i → ⊥) → P) → P
one_or_two {P} q i f g = cases (λ (b : Bool). P) (eqb q i) (λ e. f (eqb-true q i e)) (λ e. g (eqb-false q i e))

-- the place q comes after the others, or it is not below h
abbrev pub Side : ℕ → ℕ → ℕ → Type 0
Side h n q = ((q < h) × (along h n q ≡ q + n)) ⊎ ((h ≤ q) × (along h n q ≡ q))

pub along_either : (h n q : ℕ) → Side h n q
unfolding along
along_either h n q =
    cases (λ (b : Bool). ((q < h) × (cond b (q + n) q ≡ q + n)) ⊎ ((h ≤ q) × (cond b (q + n) q ≡ q))) (ltb q h)
    (λ e. inl (ltb-true q h e, refl))
    (λ e. inr (ltb-false q h e, refl))

-- the place i is followed by the one after it, or it is the last
abbrev Next : ℕ → ℕ → Type 0
Next i n = ((i + 1 < n) × (following i n ≡ i + 1)) ⊎ ((n ≤ i + 1) × (following i n ≡ 0))

following_either : (i n : ℕ) → Next i n
unfolding following
following_either i n =
    cases (λ (b : Bool). ((i + 1 < n) × (cond b (i + 1) 0 ≡ i + 1)) ⊎ ((n ≤ i + 1) × (cond b (i + 1) 0 ≡ 0))) (ltb (i + 1) n)
    (λ e. inl (ltb-true (i + 1) n e, refl))
    (λ e. inr (ltb-false (i + 1) n e, refl))

-- how late b comes on a path that begins at a, by how late both come on one that begins at h
abbrev From : ℕ → ℕ → ℕ → ℕ → Type 0
From h n a b =
    ((along h n a ≤ along h n b) × (along a n b + along h n a ≡ along h n b + a))
    ⊎ ((along h n b < along h n a) × (along a n b + along h n a ≡ along h n b + n + a))

module _ (h n : ℕ) where
  -- each place comes once
  along_once : (p q : ℕ) → p < n → q < n → along h n p ≡ along h n q → p ≡ q
  along_once p q a b e = go (along_either h n p) (along_either h n q)
    where
      go : Side h n p → Side h n q → p ≡ q
      go (inl x) (inl y) = omega arith
      go (inl x) (inr y) = omega arith
      go (inr x) (inl y) = omega arith
      go (inr x) (inr y) = omega arith

  -- of two places one comes first, or they are one
  pub along_which : {P : Type 0} (p q : ℕ) → p < n → q < n → (along h n p < along h n q → P) → (p ≡ q → P) → (along h n q < along h n p → P) → P
  along_which {P} p q a b f g k =
      cases (λ (t : Bool). P) (ltb (along h n p) (along h n q)) (λ e. f (ltb-true (along h n p) (along h n q) e))
      (λ e.
      cases (λ (t : Bool). P) (ltb (along h n q) (along h n p)) (λ d. k (ltb-true (along h n q) (along h n p) d))
      (λ d.
      let x = ltb-false (along h n p) (along h n q) e in
      let y = ltb-false (along h n q) (along h n p) d in
      g (along_once p q a b (omega arith))))

  -- nothing comes before the first place
  pub along_first : h ≤ n → (q : ℕ) → along h n q < along h n h → ⊥
  along_first l q e = go (along_either h n q) (along_either h n h)
    where
      go : Side h n q → Side h n h → ⊥
      go (inl x) (inl y) = omega arith
      go (inl x) (inr y) = omega arith
      go (inr x) (inl y) = omega arith
      go (inr x) (inr y) = omega arith

  -- what comes before the following place is this one or comes before it
  along_following : h ≤ n → (q i : ℕ) → q < n → i < n → (q ≡ i → ⊥) → along h n q < along h n (following i n) → along h n q < along h n i
  along_following l q i a b d e = go (along_either h n q) (along_either h n i) (following_either i n) (along_either h n (following i n))
    where
      go : Side h n q → Side h n i → Next i n → Side h n (following i n) → along h n q < along h n i
      go (inl x) (inl y) (inl z) (inl w) = omega arith
      go (inl x) (inl y) (inl z) (inr w) = omega arith
      go (inl x) (inl y) (inr z) (inl w) = omega arith
      go (inl x) (inl y) (inr z) (inr w) = omega arith
      go (inl x) (inr y) (inl z) (inl w) = omega arith
      go (inl x) (inr y) (inl z) (inr w) = omega arith
      go (inl x) (inr y) (inr z) (inl w) = omega arith
      go (inl x) (inr y) (inr z) (inr w) = omega arith
      go (inr x) (inl y) (inl z) (inl w) = omega arith
      go (inr x) (inl y) (inl z) (inr w) = omega arith
      go (inr x) (inl y) (inr z) (inl w) = omega arith
      go (inr x) (inl y) (inr z) (inr w) = omega arith
      go (inr x) (inr y) (inl z) (inl w) = omega arith
      go (inr x) (inr y) (inl z) (inr w) = omega arith
      go (inr x) (inr y) (inr z) (inl w) = omega arith
      go (inr x) (inr y) (inr z) (inr w) = omega arith

  -- what holds at a place and at those before it holds at those before the following place
  pub along_onward : h ≤ n → (P : ℕ → Type 0) (i : ℕ) → i < n → P i → ((q : ℕ) → q < n → along h n q < along h n i → P q)
      → (q : ℕ) → q < n → along h n q < along h n (following i n) → P q
  along_onward l P i b f g q a e = one_or_two q i (λ z. rw z f) (λ z. g q a (along_following l q i a b z e))

  along_from : (a b : ℕ) → a < n → b < n → From h n a b
  along_from a b l m = go (along_either h n a) (along_either h n b) (along_either a n b)
    where
      go : Side h n a → Side h n b → Side a n b → From h n a b
      go (inl x) (inl y) (inl z) = inr (omega arith)
      go (inl x) (inl y) (inr z) = inl (omega arith)
      go (inl x) (inr y) (inl z) = absurd (omega arith)
      go (inl x) (inr y) (inr z) = inr (omega arith)
      go (inr x) (inl y) (inl z) = inl (omega arith)
      go (inr x) (inl y) (inr z) = absurd (omega arith)
      go (inr x) (inr y) (inl z) = inr (omega arith)
      go (inr x) (inr y) (inr z) = inl (omega arith)

  -- where a comes before c, what comes before c from a on comes before it
  pub along_between : (a b c : ℕ) → a < n → b < n → c < n → along h n a < along h n c → along a n b < along a n c → along h n b < along h n c
  along_between a b c k l m e f = go (along_from a b k l) (along_from a c k m)
    where
      go : From h n a b → From h n a c → along h n b < along h n c
      go (inl x) (inl y) = omega arith
      go (inl x) (inr y) = omega arith
      go (inr x) (inl y) = omega arith
      go (inr x) (inr y) = omega arith

  -- the code's test
  comes_first_along : (a b : ℕ) → a < n → b < n → comes_first h a b ≡ ltb (along h n a) (along h n b)
  unfolding comes_first
  comes_first_along a b l m = go (along_either h n a) (along_either h n b)
    where
      later : ltb a b ≡ ltb (a + n) (b + n)
      later =
          both_ways (ltb a b) (ltb (a + n) (b + n)) (λ e. let x = ltb-true a b e in lt-ltb (a + n) (b + n) (omega arith))
          (λ e. let x = ltb-true (a + n) (b + n) e in lt-ltb a b (omega arith))

      go : Side h n a → Side h n b → cond (leb h a) (ltb b h || ltb a b) (ltb b h && ltb a b) ≡ ltb (along h n a) (along h n b)
      go (inl x) (inl y) = rw (x.1, y.1, lt-leb h a x.0, lt-ltb b h y.0) later
      go (inl x) (inr y) = rw (x.1, y.1, lt-leb h a x.0, le-ltb b h y.0) (sym (le-ltb (a + n) b (omega arith)))
      go (inr x) (inl y) = rw (x.1, y.1, le-leb h a x.0, lt-ltb b h y.0) (sym (lt-ltb a (b + n) (omega arith)))
      go (inr x) (inr y) = rw (x.1, y.1, le-leb h a x.0, le-ltb b h y.0) refl

  module _ (a b : ℕ) (l : a < n) (m : b < n) where
    pub comes_first_true : comes_first h a b ≡ true → along h n a < along h n b
    comes_first_true e = ltb-true (along h n a) (along h n b) (sym (comes_first_along a b l m) ∙ e)

    pub comes_first_false : comes_first h a b ≡ false → along h n b ≤ along h n a
    comes_first_false e = ltb-false (along h n a) (along h n b) (sym (comes_first_along a b l m) ∙ e)

pub following_within : (i n : ℕ) → i < n → following i n < n
following_within i n l = go (following_either i n)
  where
    go : Next i n → following i n < n
    go (inl x) = omega arith
    go (inr x) = omega arith

-- ---- once around from p

module _ (p n i : ℕ) (k : p < n) (l : i < n) where
  -- the following place comes later, unless the way around is ended
  pub along_later : (following i n ≡ p → ⊥) → along p n i < along p n (following i n)
  along_later d = go (along_either p n i) (following_either i n) (along_either p n (following i n))
    where
      go : Side p n i → Next i n → Side p n (following i n) → along p n i < along p n (following i n)
      go (inl x) (inl y) (inl z) = omega arith
      go (inl x) (inl y) (inr z) = omega arith
      go (inl x) (inr y) (inl z) = omega arith
      go (inl x) (inr y) (inr z) = omega arith
      go (inr x) (inl y) (inl z) = omega arith
      go (inr x) (inl y) (inr z) = omega arith
      go (inr x) (inr y) (inl z) = omega arith
      go (inr x) (inr y) (inr z) = omega arith

  -- there every other place was passed
  pub along_last : following i n ≡ p → (q : ℕ) → q < n → (q ≡ i → ⊥) → along p n q < along p n i
  along_last e q m d = go (along_either p n i) (following_either i n) (along_either p n q)
    where
      go : Side p n i → Next i n → Side p n q → along p n q < along p n i
      go (inl x) (inl y) (inl z) = omega arith
      go (inl x) (inl y) (inr z) = omega arith
      go (inl x) (inr y) (inl z) = omega arith
      go (inl x) (inr y) (inr z) = omega arith
      go (inr x) (inl y) (inl z) = omega arith
      go (inr x) (inl y) (inr z) = omega arith
      go (inr x) (inr y) (inl z) = omega arith
      go (inr x) (inr y) (inr z) = omega arith

  pub along_most : along p n i < p + n
  along_most = go (along_either p n i)
    where
      go : Side p n i → along p n i < p + n
      go (inl x) = omega arith
      go (inr x) = omega arith
