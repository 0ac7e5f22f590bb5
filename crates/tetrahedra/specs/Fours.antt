-- Four numbers ascending, and every four of a list.
use Rattle.std.specs.Prelude.{ℕ, ◌<◌, ◌≡◌, ◌⊎◌, Bool, ◌||◌, List, [], ◌∷◌, ◌++◌, map, eqb}
use Rattle.lists.specs.Threes.{Three, three, Dictionary, threes}

-- four in a row
pub record Four : Type 0 where
  pub a : ℕ
  pub b : ℕ
  pub c : ℕ
  pub d : ℕ

abbrev pub four : ℕ → ℕ → ℕ → ℕ → Four
four w x y z = record { a = w; b = x; c = y; d = z }

-- which of them
pub data Corner : Type 0 where
  c0 c1 c2 c3 : Corner

abbrev pub corners : List Corner
corners = c0 ∷ c1 ∷ c2 ∷ c3 ∷ []

abbrev pub at : Four → Corner → ℕ
at t c0 = t.a
at t c1 = t.b
at t c2 = t.c
at t c3 = t.d

-- each is above the one before it
pub record Rising (t : Four) : Type 0 where
  pub a_b : t.a < t.b
  pub b_c : t.b < t.c
  pub c_d : t.c < t.d

-- k is one of them
unfoldable pub holds : ℕ → Four → Bool
holds k t = eqb t.a k || (eqb t.b k || (eqb t.c k || eqb t.d k))

-- dictionary order
abbrev pub Dictionary4 : Four → Four → Type 0
Dictionary4 t u = (t.a < u.a) ⊎ ((t.a ≡ u.a) × Dictionary (three t.b t.c t.d) (three u.b u.c u.d))

-- x before three others
abbrev pub before : ℕ → Three ℕ → Four
before x t = four x t.a t.b t.c

-- every four of a list, in dictionary order where the list is ascending
unfoldable pub fours : List ℕ → List Four
unfolding threes
fours [] = []
fours (x ∷ xs) = map (before x) (threes xs) ++ fours xs
