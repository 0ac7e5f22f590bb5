-- From which step on a march is lean, and what taking out the marks of waiting cells leaves.
use Rattle.std.specs.Prelude.{ℕ, ◌+◌, ◌/◌, ◌<◌, ◌≡◌, Bool, true, false, not, ◌||◌, List, [], eqb, leb, length, take, Float}
use Rattle.lists.specs.Lists.{kept}
use Rattle.search.specs.Keys.{member}
use Rattle.marching.specs.March.{MarchedRow, State}
use Rattle.hearing.specs.Hearing.{Marked}
use Rattle.fronts.specs.Fronts.{Held}

-- the cells but for k
abbrev pub all_but : ℕ → List ℕ → List ℕ
all_but k ws = kept (λ (j : ℕ). not (eqb j k)) ws

-- where the marks of waiting cells are those of the first w of a list, and a place is empty, stored cells alone have a mark afterwards
abbrev pub Thins : ℕ → List ℕ → List ℕ → List Float → List ℕ → List Float → Type 0
Thins w cs ks ds ks' ds' =
    (rs : List MarchedRow) (ws : List ℕ)
    → Marked rs ws ks ds
    → ((j : ℕ) → member j ws ≡ true → member j (take w cs) ≡ true)
    → ((j : ℕ) → member j (take w cs) ≡ true → j ≡ 1 → ⊥)
    → (0 < w → length rs + length ws < length ks)
    → Marked rs [] ks' ds'

-- n rows and w waiting cells leave a place for the marks of a step, at most 15, and for one in 32 and one more
abbrev pub has_room : ℕ → ℕ → ℕ → Bool
has_room places n w = leb (n + w + (places / 32 + 16)) places

-- a lean march stays lean; another becomes so where its marks have no room
abbrev pub kind_of : Bool → ℕ → ℕ → ℕ → Bool
kind_of lean places n w = lean || not (has_room places n w)

-- in a march with marks of waiting cells a place is empty, once a cell waits
abbrev pub Spare : Bool → ℕ → ℕ → List ℕ → Type 0
Spare lean n w ks = lean ≡ false → 0 < w → n + w < length ks

-- the lists hold the same state, for the next step's kind
abbrev pub Lightens : Bool → ℕ → ℕ → List ℕ → List ℕ → List Float → Bool → List ℕ → List Float → Type 0
Lightens lean n w cs ks ds r ks' ds' =
    (s : State) (es : List Float) → Held lean s n ks ds w es cs → Spare lean n w ks → Held r s n ks' ds' w es cs
