-- Lists: who stands in one, in which order, and lists made of lists.
use Rattle.std.specs.Prelude.{ℕ, suc, ◌≡◌, ◌⊎◌, Bool, cond}
use mathlib.Core.List.{List, [], ◌∷◌, ◌++◌, Memᴰ}

infix 20 ◌∈◌
-- x stands in l
abbrev pub ◌∈◌ : {A : Type 0} → A → List A → Type 0
x ∈ l = Memᴰ x l

-- every element is R to each that comes after it
unfoldable pub Ordered : {A : Type 0} → (A → A → Type 0) → List A → Type 0
Ordered R [] = Unit
Ordered {A} R (x ∷ xs) = ((y : A) → y ∈ xs → R x y) × Ordered R xs

-- no element stands twice
abbrev pub Distinct : {A : Type 0} → List A → Type 0
Distinct l = Ordered (λ x y. x ≡ y → ⊥) l

-- x stands in l, and y after it
unfoldable pub Ahead : {A : Type 0} → List A → A → A → Type 0
Ahead [] x y = ⊥
Ahead (z ∷ zs) x y = ((x ≡ z) × (y ∈ zs)) ⊎ Ahead zs x y

-- those that pass a test, in order
unfoldable pub kept : {A : Type 0} → (A → Bool) → List A → List A
kept f [] = []
kept f (x ∷ xs) = cond (f x) (x ∷ kept f xs) (kept f xs)

-- what each gives, one after the other
unfoldable pub joined : {A B : Type 0} → (A → List B) → List A → List B
joined f [] = []
joined f (x ∷ xs) = f x ++ joined f xs

-- every element is P
unfoldable pub All : {A : Type 0} → (A → Type 0) → List A → Type 0
All P [] = Unit
All P (x ∷ xs) = P x × All P xs

-- x put in before the first element that does not come before it
unfoldable pub insert : {A : Type 0} → (A → A → Bool) → A → List A → List A
insert before x [] = x ∷ []
insert before x (y ∷ ys) = cond (before y x) (y ∷ insert before x ys) (x ∷ (y ∷ ys))

-- its place there: how many come before it at the front
unfoldable pub place : {A : Type 0} → (A → A → Bool) → A → List A → ℕ
place before x [] = 0
place before x (y ∷ ys) = cond (before y x) (suc (place before x ys)) 0
