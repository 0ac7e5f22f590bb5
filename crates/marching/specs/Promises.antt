-- What a march gives: which rows, and where their distances come from.
use Rattle.std.specs.Prelude.{ℕ, suc, ◌≤◌, ◌≡◌, ◌⊎◌, true, List, [], ◌∷◌, length, Float, Some}
use Rattle.std.specs.Float.Ieee.{neg}
use Rattle.floats.specs.Floats.{clamp_of, within}
use Rattle.ids.specs.Key.{on_lattice}
use Rattle.lists.specs.Lists.{◌∈◌, All}
use Rattle.search.specs.Keys.{ascending}
use Rattle.marching.specs.March.{MarchedRow, State, Field, Rooms, keys_of, distance_of, candidate}

-- x is what a stored one of the neighbours from place p on says of k
unfoldable pub Said : Field → List MarchedRow → ℕ → ℕ → List ℕ → Float → Type 0
Said f rs k p [] x = ⊥
Said f rs k p (n ∷ ns) x =
    ((d : Float) × ((distance_of n rs ≡ Some d) × (x ≡ candidate f.size (f.reach k p) d))) ⊎ Said f rs k (suc p) ns x

-- a row's distance is what a stored neighbour of its cell says, clamped
abbrev pub From : Field → List MarchedRow → MarchedRow → Type 0
From f rs r = (x : Float) × (Said f rs r.key 0 (f.near r.key) x × (r.distance ≡ clamp_of x (neg f.most) f.most))

-- a march in these rooms from these seeds ends in this state
pub record Marches (f : Field) (m : Rooms) (seeds : List MarchedRow) (s : State) : Type 0 where
  -- no cell waits any more
  pub empty : s.waiting ≡ []
  -- the keys ascend, so each stands once
  pub ascends : ascending (keys_of s.stored) ≡ true
  pub lattice : All (λ (r : MarchedRow). on_lattice r.key ≡ true) s.stored
  -- every row is a seed, or at most the maximum distance in size
  pub within : All (λ (r : MarchedRow). (r ∈ seeds) ⊎ (within f.most r.distance ≡ true)) s.stored
  -- every row is a seed, or has its distance from a stored neighbour
  pub said : All (λ (r : MarchedRow). (r ∈ seeds) ⊎ From f s.stored r) s.stored
  -- takings, skipped ones included, are at most the rows
  pub takings : s.takings ≤ length s.stored
  pub fits : length s.stored ≤ m.rows
