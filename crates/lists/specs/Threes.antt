-- Every three of a list.
use Rattle.std.specs.Prelude.{ℕ, zero, suc, ◌+◌, ◌<◌, ◌≡◌, ◌⊎◌, List, [], ◌∷◌, ◌++◌, map, take}

-- three in a row
pub record Three (A : Type 0) : Type 0 where
  pub a : A
  pub b : A
  pub c : A

abbrev pub three : {A : Type 0} → A → A → A → Three A
three x y z = record { a = x; b = y; c = z }

-- dictionary order
abbrev pub Dictionary : Three ℕ → Three ℕ → Type 0
Dictionary t u = (t.a < u.a) ⊎ ((t.a ≡ u.a) × ((t.b < u.b) ⊎ ((t.b ≡ u.b) × (t.c < u.c))))

-- x and y with every one of a list
unfoldable pub with_third : {A : Type 0} → A → A → List A → List (Three A)
with_third x y [] = []
with_third x y (z ∷ zs) = three x y z ∷ with_third x y zs

-- x with every two of a list, in dictionary order
unfoldable pub with_two : {A : Type 0} → A → List A → List (Three A)
with_two x [] = []
with_two x (y ∷ ys) = with_third x y ys ++ with_two x ys

-- every three of a list, in dictionary order
unfoldable pub threes : {A : Type 0} → List A → List (Three A)
threes [] = []
threes (x ∷ xs) = with_two x xs ++ threes xs

-- how many twos and threes there are among n
unfoldable pub twos_of : ℕ → ℕ
twos_of zero = 0
twos_of (suc n) = n + twos_of n

unfoldable pub threes_of : ℕ → ℕ
unfolding twos_of
threes_of zero = 0
threes_of (suc n) = twos_of n + threes_of n

-- the three columns of a list of threes
abbrev pub column0 : List (Three ℕ) → List ℕ
column0 ts = map (λ (t : Three ℕ). t.a) ts

abbrev pub column1 : List (Three ℕ) → List ℕ
column1 ts = map (λ (t : Three ℕ). t.b) ts

abbrev pub column2 : List (Three ℕ) → List ℕ
column2 ts = map (λ (t : Three ℕ). t.c) ts

-- threes by their columns again, as far as all three go
unfoldable pub rejoined : List ℕ → List ℕ → List ℕ → List (Three ℕ)
rejoined [] bs cs = []
rejoined (a ∷ as') [] cs = []
rejoined (a ∷ as') (b ∷ bs) [] = []
rejoined (a ∷ as') (b ∷ bs) (c ∷ cs) = three a b c ∷ rejoined as' bs cs

-- the first n threes that three lists hold
abbrev pub threes_in : List ℕ → List ℕ → List ℕ → ℕ → List (Three ℕ)
threes_in as' bs cs n = take n (rejoined as' bs cs)
