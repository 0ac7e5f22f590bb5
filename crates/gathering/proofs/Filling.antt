-- A loop that fills a list with what it makes of another, place by place; and one that holds own rows back.
-- Assumes nothing.
use mathlib.Core.Path.{◌≡◌, refl, sym, ap, ◌∙◌}
use mathlib.Core.Logic.{◌⊎◌, inl, inr}
use mathlib.Core.Bool.{Bool, cond}
use mathlib.Core.List.{List, [], ◌∷◌, map, map-append}
use Prim.Native.Nat.{ℕ, zero, suc, ◌+◌, ◌<◌, ◌≤◌}
use native.Mathlib.Nat.{not-suc-le-zero, le_of_suc-le-suc}
use native.Mathlib.Numerals.{add-one}
use native.Mathlib.Omega.{arith}
use borrow.Author.Tests.{lt-ltb, le-ltb}
use lib.ListN.{length, get_or, take, set, get_or-map}
use lib.Seq.{length-take-le, get_or-take, take-suc, take-suc-set}
use lib.Ieee.{Float, nan}
use Rattle.lists.proofs.Bools.{cases}
use Rattle.gathering.specs.Gathering.{standing, below, above, value_at, held_back}

-- a value in a list, whatever stands for one past its end
pub at_any : {A : Type 0} (l : List A) (i : ℕ) (d e : A) → i < length l → get_or l i d ≡ get_or l i e
at_any [] i d e h = absurd (not-suc-le-zero h)
at_any (x ∷ l) zero d e h = refl
at_any (x ∷ l) (suc i) d e h = at_any l i d e (le_of_suc-le-suc h)

-- one place more
pub filled_more :
    {A B : Type 0} (f : A → B) (d : A) (xs : List A) (ys : List B) (i : ℕ) (y : B)
    → y ≡ f (get_or xs i d)
    → i < length xs
    → i < length ys
    → take i ys ≡ map f (take i xs)
    → take (i + 1) (set ys i y) ≡ map f (take (i + 1) xs)
filled_more f d xs ys i y q h g e =
    rw (add-one i, take-suc-set ys i y g, e, take-suc xs i d h, q)
    (sym (map-append f (take i xs) (get_or xs i d ∷ [])))

-- what stands at a filled place
pub filled_at :
    {A B : Type 0} (f : A → B) (d : A) (e : B) (xs : List A) (ys : List B) (m i : ℕ)
    → take m ys ≡ map f (take m xs)
    → m ≤ length ys
    → i < m
    → get_or ys i e ≡ f (get_or xs i d)
filled_at f d e xs ys m i q h l =
    sym (get_or-take m ys i e l)
    ∙ at_any (take m ys) i e (f d) (rw (length-take-le m ys h) l)
    ∙ ap (λ t. get_or t i (f d)) q
    ∙ get_or-map f (take m xs) i d
    ∙ ap f (get_or-take m xs i d l)

-- ---- values at seats

module _ {A : Type 0} (xs : List A) (absent : A) (s p : ℕ) (e : p ≡ below s) where
  pub value_over : (d : A) → p < above s → above s ≤ length xs → get_or xs p d ≡ value_at xs absent s
  unfolding value_at
  value_over d h g = rw (← e, lt-ltb p (above s) h) (at_any xs p d absent (omega arith))

  pub value_before : above s ≤ p → absent ≡ value_at xs absent s
  unfolding value_at
  value_before h = rw (← e, le-ltb p (above s) h) refl

-- ---- own rows held back

module _ (most : Float) where
  pub held_length : (ws : List Float) (ss : List ℕ) → length (held_back most ws ss) ≡ length ss
  unfolding held_back
  held_length [] ss = refl
  held_length (w ∷ ws) [] = refl
  held_length (w ∷ ws) (s ∷ ss) = ap suc (held_length ws ss)

  -- a seat is as it was, or its row waits
  pub held_at : (ws : List Float) (ss : List ℕ) (i : ℕ) → (get_or (held_back most ws ss) i 0 ≡ get_or ss i 0) ⊎ (get_or (held_back most ws ss) i 0 ≡ 0)
  unfolding held_back
  held_at [] ss i = inl refl
  held_at (w ∷ ws) [] i = inl refl
  held_at (w ∷ ws) (s ∷ ss) zero =
      cases (λ (b : Bool). (cond b s 0 ≡ s) ⊎ (cond b s 0 ≡ 0)) (standing most w) (λ e. inl refl) (λ e. inr refl)
  held_at (w ∷ ws) (s ∷ ss) (suc i) = held_at ws ss i

  pub take_held : (m : ℕ) (ws : List Float) (ss : List ℕ) → take m (held_back most ws ss) ≡ held_back most ws (take m ss)
  unfolding held_back
  take_held m [] ss = refl
  take_held zero (w ∷ ws) ss = refl
  take_held (suc m) (w ∷ ws) [] = refl
  take_held (suc m) (w ∷ ws) (s ∷ ss) = ap {B = List ℕ} (λ t. cond (standing most w) s 0 ∷ t) (take_held m ws ss)

  -- one row more
  held : (ws : List Float) (ss : List ℕ) (i : ℕ)
      → i < length ws
      → set (held_back most (take i ws) ss) i (cond (standing most (get_or ws i nan)) (get_or (held_back most (take i ws) ss) i 0) 0)
      ≡ held_back most (take (suc i) ws) ss
  unfolding held_back
  held [] ss i h = absurd (not-suc-le-zero h)
  held (w ∷ ws) [] zero h = refl
  held (w ∷ ws) (s ∷ ss) zero h = refl
  held (w ∷ ws) [] (suc i) h = refl
  held (w ∷ ws) (s ∷ ss) (suc i) h = ap {B = List ℕ} (λ t. cond (standing most w) s 0 ∷ t) (held ws ss i (le_of_suc-le-suc h))

  pub one_held : (ws : List Float) (ss seats : List ℕ) (i : ℕ)
      → i < length ws
      → seats ≡ held_back most (take i ws) ss
      → (b : Bool)
      → b ≡ standing most (get_or ws i nan)
      → (seat : ℕ)
      → seat ≡ cond b (get_or seats i 0) 0
      → set seats i seat ≡ held_back most (take (i + 1) ws) ss
  one_held ws ss seats i h now b is seat e = rw (e, is, now, add-one i) (held ws ss i h)
