-- What the march over lent lists leaves, and what its functions promise each other.
use Rattle.std.specs.Prelude.{ℕ, ◌≤◌, ◌<◌, ◌≡◌, Bool, true, cond, List, [], ◌∷◌, eqb, length, get_or, Float, Ok, Err, Result}
use Rattle.std.specs.Float.{nan}
use Rattle.floats.specs.Floats.{zero32, is_finite}
use Rattle.ids.specs.Key.{on_lattice}
use Rattle.lists.specs.Padding.{padded}
use Rattle.search.specs.Keys.{ascending}
use Rattle.table.specs.Table.{Row, Table}
use Rattle.marching.specs.March.{MarchedRow, marched_row, State, Going, on, Rooms, keys_of, distances_of, is_seed, sow, sow_all, nothing}
use Rattle.hearing.specs.Hearing.{Lent}
use Rattle.fronts.specs.Fronts.{rooms_of, Held, Stopped}
use Rattle.thinning.specs.Thinning.{Spare}
use Rattle.refusals.specs.declared.Refusal.{Refusal}
use Rattle.racing.specs.declared.Pace.{Pace}

-- a table whose rows are on the lattice, at finite distances
pub record Tabled (t : Table) : Type 0 where
  pub lent : Lent t
  pub lattice : (i : ℕ) → i < t.count → on_lattice (get_or t.keys i 0) ≡ true
  pub finite : (i : ℕ) → i < t.count → is_finite (get_or t.distances i nan) ≡ true

-- a table's row is sown if it is a seed
unfoldable pub sow_if : Float → (ℕ → List ℕ) → Rooms → Row → State → Going
sow_if threshold near m r s = cond (is_seed threshold r) (sow near m (marched_row r.key r.distance) s) (on s)

-- four lists hold a state from which a step may be taken: in a march with marks of waiting cells a place is empty, once a cell waits
pub record MayStep (lean : Bool) (s : State) (n : ℕ) (ks : List ℕ) (ds : List Float) (w : ℕ) (es : List Float) (cs : List ℕ) : Type 0 where
  pub held : Held lean s n ks ds w es cs
  pub spare : Spare lean n w ks

-- what a step leaves, from which the next may be taken; or why it stopped
unfoldable pub Goes : Going → Result Pace Refusal → List ℕ → List Float → List Float → List ℕ → Type 0
Goes g (Ok p) ks ds es cs = (t : State) × ((g ≡ on t) × MayStep p.lean t p.rows ks ds p.waiting es cs)
Goes g (Err why) ks ds es cs = Stopped g why

-- the four lists are zero
pub record Blank (ks : List ℕ) (ds es : List Float) (cs : List ℕ) : Type 0 where
  pub keys : ks ≡ padded 0 (length ks) []
  pub distances : ds ≡ padded zero32 (length ks) []
  pub estimates : es ≡ padded zero32 (length cs) []
  pub cells : cs ≡ padded 0 (length cs) []

-- all seeds are sown
pub record Sown (rs : List MarchedRow) (near : ℕ → List ℕ) (lean : Bool) (s : State) (n : ℕ) (ks : List ℕ) (ds : List Float) (w : ℕ) (es : List Float)
    (cs : List ℕ) : Type 0 where
  pub ascends : ascending (keys_of rs) ≡ true
  pub sown : sow_all near (rooms_of ks cs) rs nothing ≡ on s
  pub ready : MayStep lean s n ks ds w es cs

-- no cell waits any more, and the rows have a place
unfoldable pub Emptied : Going → Result (ℕ × ℕ) Refusal → List ℕ → List Float → List Float → List ℕ → Type 0
Emptied g (Ok (n, t)) ks ds es cs = (s : State) × ((g ≡ on s) × ((s.takings ≡ t) × (Held true s n ks ds 0 es cs × (n ≤ length ks))))
Emptied g (Err why) ks ds es cs = Stopped g why

-- a first key that stands as 1 is 0
unfoldable pub unlabelled : List ℕ → List ℕ
unlabelled [] = []
unlabelled (k ∷ ks) = cond (eqb k 1) 0 k ∷ ks

-- the lists hold the stored rows by key, and then zeros
pub record Laid (s : State) (n : ℕ) (ks : List ℕ) (ds es : List Float) (cs : List ℕ) : Type 0 where
  pub keys : ks ≡ padded 0 (length ks) (keys_of s.stored)
  pub distances : ds ≡ padded zero32 (length ks) (distances_of s.stored)
  pub count : n ≡ length s.stored
  pub fits : n ≤ length ks
  pub ascends : ascending (keys_of s.stored) ≡ true
  pub empty : s.waiting ≡ []
  pub estimates : es ≡ padded zero32 (length cs) []
  pub cells : cs ≡ padded 0 (length cs) []

-- what a march leaves: its rows, and no cell waiting; or why it stopped
unfoldable pub Finished : Going → Result (ℕ × ℕ) Refusal → List ℕ → List Float → List Float → List ℕ → Type 0
Finished g (Ok (n, t)) ks ds es cs = (s : State) × ((g ≡ on s) × ((s.takings ≡ t) × Laid s n ks ds es cs))
Finished g (Err why) ks ds es cs = Stopped g why
