-- Looking a cell up among rows is looking its key up among theirs: the place that is found is the row's. Assumes nothing.
use Rattle.std.specs.Prelude.{Some, None, Option}
use mathlib.Core.Path.{◌≡◌, refl, sym, ◌∙◌}
use mathlib.Core.Bool.{Bool, true, false, cond, ◌||◌}
use mathlib.Core.List.{List, [], ◌∷◌}
use Prim.Native.Nat.{ℕ}
use lib.Dec.{eqb}
use lib.ListN.{get_or}
use lib.Ieee.{Float, nan}
use Rattle.lists.proofs.Bools.{cases}
use Rattle.search.specs.Keys.{member, find, next}
use Rattle.marching.specs.March.{MarchedRow, keys_of, distances_of, distance_of}

-- whether something was found
unfoldable pub stands : Option ℕ → Bool
stands (Some i) = true
stands None = false

stands_next : (f : Option ℕ) → stands (next f) ≡ stands f
unfolding next stands
stands_next (Some i) = refl
stands_next None = refl

pub member_find : (k : ℕ) (ks : List ℕ) → member k ks ≡ stands (find k ks)
unfolding member find stands
member_find k [] = refl
member_find k (l ∷ ls) =
    cases (λ (b : Bool). b || member k ls ≡ stands (cond b (Some 0) (next (find k ls)))) (eqb l k)
    (λ e. refl) (λ e. member_find k ls ∙ sym (stands_next (find k ls)))

-- the value at the place that was found
unfoldable pub at : Option ℕ → List Float → Option Float
at (Some i) ds = Some (get_or ds i nan)
at None ds = None

at_next : (f : Option ℕ) (d : Float) (ds : List Float) → at (next f) (d ∷ ds) ≡ at f ds
unfolding next at
at_next (Some i) d ds = refl
at_next None d ds = refl

pub distance_find : (k : ℕ) (rs : List MarchedRow) → distance_of k rs ≡ at (find k (keys_of rs)) (distances_of rs)
unfolding distance_of find at
distance_find k [] = refl
distance_find k (r ∷ rs) =
    cases (λ (b : Bool).
    cond b (Some r.distance) (distance_of k rs)
    ≡ at (cond b (Some 0) (next (find k (keys_of rs)))) (r.distance ∷ distances_of rs)) (eqb r.key k)
    (λ e. refl) (λ e. distance_find k rs ∙ sym (at_next (find k (keys_of rs)) r.distance (distances_of rs)))
