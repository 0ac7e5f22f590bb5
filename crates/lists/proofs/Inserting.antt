-- What putting an element in keeps, and what holds of every element.
-- Assumes nothing.
use mathlib.Core.Path.{◌≡◌, refl, ap}
use mathlib.Core.Bool.{Bool, cond}
use mathlib.Core.List.Memᴰ
use mathlib.Core.List.{List, [], ◌∷◌}
use Prim.Native.Nat.{suc}
use lib.ListN.{length}
use Rattle.lists.specs.Lists.{◌∈◌, All, insert}
use Rattle.lists.proofs.Bools.{cases}

pub every : {A : Type 0} (P : A → Type 0) (l : List A) → ((x : A) → P x) → All P l
unfolding All
every P [] h = tt
every P (x ∷ xs) h = (h x, every P xs h)

-- P of every element that stands in the list
pub among : {A : Type 0} (P : A → Type 0) (l : List A) → ((x : A) → x ∈ l → P x) → All P l
unfolding All
among P [] h = tt
among P (x ∷ xs) h = (h x (Memᴰ.head refl), among P xs (λ y m. h y (Memᴰ.tail m)))

module _ {A : Type 0} (before : A → A → Bool) (x : A) where
  pub insert_length : (l : List A) → length (insert before x l) ≡ suc (length l)
  unfolding insert
  insert_length [] = refl
  insert_length (y ∷ ys) =
      cases (λ (b : Bool). length (cond b (y ∷ insert before x ys) (x ∷ (y ∷ ys))) ≡ suc (suc (length ys))) (before y x)
      (λ e. ap suc (insert_length ys)) (λ e. refl)

  pub insert_all : (P : A → Type 0) (l : List A) → P x → All P l → All P (insert before x l)
  unfolding insert All
  insert_all P [] p h = (p, tt)
  insert_all P (y ∷ ys) p h =
      cases (λ (b : Bool). All P (cond b (y ∷ insert before x ys) (x ∷ (y ∷ ys)))) (before y x)
      (λ e. (h.0, insert_all P ys p h.1)) (λ e. (p, h))
