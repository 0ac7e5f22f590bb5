-- Marching: distances carried outwards from the rows near the surface.
use Rattle.std.specs.Prelude.{ℕ, zero, suc, Bool, cond, ◌&&◌, ◌||◌, List, [], ◌∷◌, map, ltb, eqb, length, Float, None, Option, Some}
use Rattle.std.specs.Float.{binary32}
use Rattle.std.specs.Float.Ieee.{add, mul, lt, eq, le, neg}
use Rattle.floats.specs.Floats.{f32, zero32, largest, size_of, sign_of, clamp_of}
use Rattle.lists.specs.Lists.{insert}
use Rattle.refusals.specs.declared.Refusal.{Refusal}
use Rattle.refusals.specs.declared.Refusal.TheVariants.{NoPlace, NoWaitingPlace}
use Rattle.search.specs.Keys.{member}
use Rattle.table.specs.Table.{Row}

-- a row of the marched table
pub record MarchedRow : Type 0 where
  pub key : ℕ
  pub distance : Float

abbrev pub marched_row : ℕ → Float → MarchedRow
marched_row k d = record { key = k; distance = d }

-- a waiting cell
pub record Cell : Type 0 where
  pub estimate : Float
  pub key : ℕ

abbrev pub cell : Float → ℕ → Cell
cell e k = record { estimate = e; key = k }

-- the rows stored so far, ascending by key; the cells that wait, the least (estimate, key) first; how many were taken
pub record State : Type 0 where
  pub stored : List MarchedRow
  pub waiting : List Cell
  pub takings : ℕ

abbrev pub state : List MarchedRow → List Cell → ℕ → State
state rs cs n = record { stored = rs; waiting = cs; takings = n }

-- what a march goes by: a cell's neighbours, the length of its step to the neighbour at a place of them, the voxel size, the maximum distance
pub record Field : Type 0 where
  pub near : ℕ → List ℕ
  pub reach : ℕ → ℕ → Float
  pub size : Float
  pub most : Float

-- how many rows and how many waiting cells have a place
pub record Rooms : Type 0 where
  pub rows : ℕ
  pub cells : ℕ

abbrev pub rooms : ℕ → ℕ → Rooms
rooms rows cells = record { rows = rows; cells = cells }

-- a step goes on, or is refused
pub data Going : Type 0 where
  on : State → Going
  refused : Refusal → Going

-- one step after another, unless refused
unfoldable pub and_then : Going → (State → Going) → Going
and_then (on s) f = f s
and_then (refused why) f = refused why

-- ---- rows

abbrev pub row_before : MarchedRow → MarchedRow → Bool
row_before r s = ltb r.key s.key

-- the distance of k, where it is stored
unfoldable pub distance_of : ℕ → List MarchedRow → Option Float
distance_of k [] = None
distance_of k (r ∷ rs) = cond (eqb r.key k) (Some r.distance) (distance_of k rs)

abbrev pub keys_of : List MarchedRow → List ℕ
keys_of rs = map (λ (r : MarchedRow). r.key) rs

abbrev pub distances_of : List MarchedRow → List Float
distances_of rs = map (λ (r : MarchedRow). r.distance) rs

abbrev pub is_stored : ℕ → List MarchedRow → Bool
is_stored k rs = member k (keys_of rs)

-- the row gets one of the places for rows, or there is none left (6)
unfoldable pub store : ℕ → MarchedRow → State → Going
store room r s =
    cond (ltb (length s.stored) room)
    (on (state (insert row_before r s.stored) s.waiting s.takings))
    (refused NoPlace)

-- ---- waiting cells

-- by estimate, then by key
abbrev pub cell_before : Cell → Cell → Bool
cell_before c d = lt c.estimate d.estimate || (eq c.estimate d.estimate && ltb c.key d.key)

abbrev pub cells_of : List Cell → List ℕ
cells_of cs = map (λ (c : Cell). c.key) cs

abbrev pub waits : ℕ → List Cell → Bool
waits k cs = member k (cells_of cs)

-- a cell neither stored nor waiting gets one of the waiting places, or there is none left (8)
unfoldable pub wait : ℕ → Float → ℕ → State → Going
wait room e k s =
    cond (is_stored k s.stored || waits k s.waiting) (on s)
    (cond (ltb (length s.waiting) room)
    (on (state s.stored (insert cell_before (cell e k) s.waiting) s.takings))
    (refused NoWaitingPlace))

-- all of them, in order
unfoldable pub wait_all : ℕ → Float → List ℕ → State → Going
wait_all room e [] s = on s
wait_all room e (k ∷ ks) s = and_then (wait room e k s) (wait_all room e ks)

-- ---- seeds

-- |distance| below the threshold and weight above 0
abbrev pub is_seed : Float → Row → Bool
is_seed threshold r = lt (size_of r.distance) threshold && lt zero32 r.weight

-- the seeds, in the table's order, with their distances as they are
unfoldable pub seeds : Float → List Row → List MarchedRow
seeds threshold [] = []
seeds threshold (r ∷ rs) = cond (is_seed threshold r) (marched_row r.key r.distance ∷ seeds threshold rs) (seeds threshold rs)

-- a seed is stored, then its neighbours wait at its |distance|
unfoldable pub sow : (ℕ → List ℕ) → Rooms → MarchedRow → State → Going
sow near m r s = and_then (store m.rows r s) (wait_all m.cells (size_of r.distance) (near r.key))

-- all seeds, in order
unfoldable pub sow_all : (ℕ → List ℕ) → Rooms → List MarchedRow → State → Going
sow_all near m [] s = on s
sow_all near m (r ∷ rs) s = and_then (sow near m r s) (sow_all near m rs)

-- ---- settling a cell

-- the root of 3
abbrev pub diagonal : Float
diagonal = f32 0x3FDD_B3D7

-- what a stored neighbour at distance d and step length l says: sign × (|d| + l × size)
unfoldable pub candidate : Float → Float → Float → Float
candidate size l d = mul binary32 (sign_of d) (add binary32 (size_of d) (mul binary32 l size))

-- the better of two: the earlier one, unless the later is strictly smaller in size
abbrev pub better : Float → Float → Float
better best c = cond (lt (size_of c) (size_of best)) c best

-- a neighbour that is not stored says nothing
unfoldable pub heard : Float → Float → Float → Option Float → Float
heard size l best None = best
heard size l best (Some d) = better best (candidate size l d)

-- the best over the neighbours from place p on
unfoldable pub settling : Field → List MarchedRow → ℕ → ℕ → Float → List ℕ → Float
settling f rs k p best [] = best
settling f rs k p best (n ∷ ns) = settling f rs k (suc p) (heard f.size (f.reach k p) best (distance_of n rs)) ns

-- k's distance from its stored neighbours, clamped to ± the maximum distance; the search starts at the largest float
unfoldable pub settled : Field → List MarchedRow → ℕ → Float
settled f rs k = clamp_of (settling f rs k 0 largest (f.near k)) (neg f.most) f.most

-- ---- takings

-- where the neighbours of a cell at distance d wait: |d| + diagonal × size
abbrev pub onward : Field → Float → Float
onward f d = add binary32 (size_of d) (mul binary32 diagonal f.size)

-- they wait if that is at most the maximum distance
unfoldable pub spread : Field → ℕ → MarchedRow → State → Going
spread f room r s = cond (le (onward f r.distance) f.most) (wait_all room (onward f r.distance) (f.near r.key) s) (on s)

-- a cell that is not stored gets its distance and is stored, then its neighbours wait
unfoldable pub settle : Field → Rooms → ℕ → State → Going
settle f m k s =
    let r = marched_row k (settled f s.stored k) in
    and_then (store m.rows r s) (spread f m.cells r)

-- a taken cell that is stored is skipped
unfoldable pub visit : Field → Rooms → ℕ → State → Going
visit f m k s = cond (is_stored k s.stored) (on s) (settle f m k s)

-- one taking: the first waiting cell frees its place and is visited
unfoldable pub taking : Field → Rooms → List Cell → State → Going
taking f m [] s = on s
taking f m (c ∷ cs) s = visit f m c.key (state s.stored cs (suc s.takings))

abbrev pub take : Field → Rooms → State → Going
take f m s = taking f m s.waiting s

-- n takings, or fewer where no cell waits any more
unfoldable pub take_up_to : Field → Rooms → ℕ → State → Going
take_up_to f m zero s = on s
take_up_to f m (suc n) s = and_then (take f m s) (take_up_to f m n)

-- ---- the march

abbrev pub nothing : State
nothing = state [] [] 0

-- Seeds, then takings until no cell waits: one more than the rows that have a place are always enough (proofs/Sound.antt, march_ends).
unfoldable pub march : Field → Rooms → List MarchedRow → Going
march f m rs = and_then (sow_all f.near m rs nothing) (take_up_to f m (suc m.rows))
