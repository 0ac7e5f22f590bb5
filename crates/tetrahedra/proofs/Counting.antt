-- How many of a list pass a test, how many a list of lists has, and sums over a list where all but one or two give nothing.
-- Assumes nothing.
use Prim.Native.Nat.{ℕ, ◌+◌, ◌*◌, ◌≤◌, zero-le}
use native.Mathlib.Omega.{arith}
use mathlib.Core.Path.{◌≡◌, refl, sym, ap, ◌∙◌}
use mathlib.Core.Logic.{⊎_elim}
use mathlib.Core.Bool.{Bool, true, false, not, cond}
use mathlib.Core.List.Memᴰ
use mathlib.Core.List.{List, [], ◌∷◌, ◌++◌}
use lib.ListN.{length, length-append}
use Rattle.groups.specs.Groups.{one}
use Rattle.lists.specs.Lists.{◌∈◌, Ordered, Distinct, kept, joined}

module _ {A : Type 0} where
  -- one more where a test passes
  pub length_front : (b : Bool) (x : A) (l : List A) → length (cond b (x ∷ l) l) ≡ one b + length l
  length_front true x l = omega arith
  length_front false x l = omega arith

  pub kept_append : (f : A → Bool) (l m : List A) → length (kept f (l ++ m)) ≡ length (kept f l) + length (kept f m)
  unfolding kept
  kept_append f [] m = omega arith
  kept_append f (x ∷ xs) m =
      omega (arith, length_front (f x) x (kept f (xs ++ m)), length_front (f x) x (kept f xs), kept_append f xs m)

  -- those that pass and those that fail are all
  pub kept_both : (f : A → Bool) (l : List A) → length (kept f l) + length (kept (λ (x : A). not (f x)) l) ≡ length l
  unfolding kept
  kept_both f [] = refl
  kept_both f (x ∷ xs) =
      omega (arith, length_front (f x) x (kept f xs), length_front (not (f x)) x (kept (λ (y : A). not (f y)) xs), kept_both f xs, split (f x))
    where
      split : (b : Bool) → one b + one (not b) ≡ 1
      split true = refl
      split false = refl

  -- what stands in a list makes it longer than 0
  pub not_empty : (l : List A) {x : A} → x ∈ l → length l ≡ 0 → ⊥
  not_empty [] m e = Memᴰ.not-nil m
  not_empty (y ∷ ys) m e = omega arith

  -- the sum of what each gives
  unfoldable pub sum_of : (A → ℕ) → List A → ℕ
  sum_of c [] = 0
  sum_of c (x ∷ xs) = c x + sum_of c xs

  pub sum_none : (c : A → ℕ) (l : List A) → ((x : A) → x ∈ l → c x ≡ 0) → sum_of c l ≡ 0
  unfolding sum_of
  sum_none c [] h = refl
  sum_none c (x ∷ xs) h = omega (arith, h x (Memᴰ.head refl), sum_none c xs (λ y m. h y (Memᴰ.tail m)))

  pub sum_one : (c : A → ℕ) (l : List A) → Distinct l → (t : A) → t ∈ l → ((x : A) → x ∈ l → (x ≡ t → ⊥) → c x ≡ 0) → sum_of c l ≡ c t
  unfolding sum_of Ordered
  sum_one c [] d t m h = absurd (Memᴰ.not-nil m)
  sum_one c (x ∷ xs) d t m h =
      ⊎_elim
      (λ (e : t ≡ x).
      let rest = sum_none c xs (λ y n. h y (Memᴰ.tail n) (λ q. d.0 y n (sym e ∙ sym q))) in
      let same = ap c e in
      omega arith)
      (λ (n : t ∈ xs).
      let rest = sum_one c xs d.1 t n (λ y o q. h y (Memᴰ.tail o) q) in
      let none = h x (Memᴰ.head refl) (λ q. d.0 t n q) in
      omega arith)
      (Memᴰ.cases_cons m)

  pub sum_two :
      (c : A → ℕ) (l : List A)
      → Distinct l
      → (t u : A)
      → t ∈ l
      → u ∈ l
      → (t ≡ u → ⊥)
      → ((x : A) → x ∈ l → (x ≡ t → ⊥) → (x ≡ u → ⊥) → c x ≡ 0)
      → sum_of c l ≡ c t + c u
  unfolding sum_of Ordered
  sum_two c [] d t u m n un h = absurd (Memᴰ.not-nil m)
  sum_two c (x ∷ xs) d t u m n un h =
      ⊎_elim
      (λ (e : t ≡ x).
      ⊎_elim (λ (f : u ≡ x). absurd (un (e ∙ sym f)))
      (λ (o : u ∈ xs).
      let rest = sum_one c xs d.1 u o (λ y p q. h y (Memᴰ.tail p) (λ r. d.0 y p (sym e ∙ sym r)) q) in
      let same = ap c e in
      omega arith)
      (Memᴰ.cases_cons n))
      (λ (i : t ∈ xs).
      ⊎_elim
      (λ (f : u ≡ x).
      let rest = sum_one c xs d.1 t i (λ y p q. h y (Memᴰ.tail p) q (λ r. d.0 y p (sym f ∙ sym r))) in
      let same = ap c f in
      omega arith)
      (λ (o : u ∈ xs).
      let rest = sum_two c xs d.1 t u i o un (λ y p q r. h y (Memᴰ.tail p) q r) in
      let none = h x (Memᴰ.head refl) (λ q. d.0 t i q) (λ q. d.0 u o q) in
      omega arith)
      (Memᴰ.cases_cons n))
      (Memᴰ.cases_cons m)

-- over a list made of lists
pub kept_joined : {A B : Type 0} (f : B → Bool) (g : A → List B) (l : List A) → length (kept f (joined g l)) ≡ sum_of (λ (x : A). length (kept f (g x))) l
unfolding kept joined sum_of
kept_joined f g [] = refl
kept_joined f g (x ∷ xs) = kept_append f (g x) (joined g xs) ∙ ap (λ (n : ℕ). length (kept f (g x)) + n) (kept_joined f g xs)

-- where each gives at most n, all give at most n times their number
pub joined_few : {A B : Type 0} (f : A → List B) (n : ℕ) → ((x : A) → length (f x) ≤ n) → (l : List A) → length (joined f l) ≤ n * length l
unfolding joined
joined_few f n few [] = zero-le
joined_few f n few (x ∷ xs) = rw (length-append (f x) (joined f xs)) (omega (arith, few x, joined_few f n few xs))
