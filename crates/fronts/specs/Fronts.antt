-- What the functions of the march promise each other. The marched lists hold a mark for each stored cell and, but in a lean march, for each waiting
-- one, in no order; the waiting lists are a heap.
use Rattle.std.specs.Prelude.{ℕ, suc, ◌+◌, ◌≤◌, ◌≡◌, Bool, true, false, List, [], ◌∷◌, length, Float, Ok, Err, Result}
use Rattle.std.specs.Float.Ieee.{le}
use Rattle.floats.specs.Floats.{zero32, is_finite}
use Rattle.heap.specs.Heap.{Heaped}
use Rattle.ids.specs.Key.{on_lattice}
use Rattle.lists.specs.Lists.{insert}
use Rattle.search.specs.Keys.{member}
use Rattle.marching.specs.declared.Course.{Course}
use Rattle.marching.specs.March.{marched_row, Cell, State, state, Field, Going, on, refused, Rooms, rooms, row_before, keys_of, cells_of, is_stored}
use Rattle.marching.specs.Spreading.{Told}
use Rattle.hearing.specs.Hearing.{Marked}
use Rattle.refusals.specs.declared.Refusal.{Refusal}

-- ---- what is lent

-- a maximum distance that is finite and at least 0
pub record Fair (c : Course) : Type 0 where
  pub least : le zero32 c.most ≡ true
  pub finite : is_finite c.most ≡ true

-- the two lists of a set are equally long
abbrev pub Paired : List ℕ → List Float → List Float → List ℕ → Type 0
Paired ks ds es cs = (length ds ≡ length ks) × (length es ≡ length cs)

-- the rooms of the lists
abbrev pub rooms_of : List ℕ → List ℕ → Rooms
rooms_of ks cs = rooms (length ks) (length cs)

-- ---- a state in four lists

-- the cells that have a mark beside the rows: those that wait; none in a lean march
unfoldable pub marking : Bool → List Cell → List ℕ
marking true cs = []
marking false cs = cells_of cs

-- four lists hold a state, whose waiting cells are on the lattice
pub record Front (lean : Bool) (s : State) (ks : List ℕ) (ds : List Float) (w : ℕ) (es : List Float) (cs : List ℕ) : Type 0 where
  pub marked : Marked s.stored (marking lean s.waiting) ks ds
  pub heap : Heaped s.waiting w es cs
  pub lattice : (k : ℕ) → member k (cells_of s.waiting) ≡ true → on_lattice k ≡ true

-- and n rows are stored
pub record Held (lean : Bool) (s : State) (n : ℕ) (ks : List ℕ) (ds : List Float) (w : ℕ) (es : List Float) (cs : List ℕ) : Type 0 where
  pub front : Front lean s ks ds w es cs
  pub count : n ≡ length s.stored

-- n marks more have a place beside those of rows and waiting cells; a lean march asks for none
abbrev pub MarksFit : Bool → ℕ → State → List ℕ → Type 0
MarksFit lean n s ks = lean ≡ false → length s.stored + length s.waiting + n ≤ length ks

-- ---- what a step leaves

-- why a step stopped
abbrev pub Stopped : Going → Refusal → Type 0
Stopped g why = g ≡ refused why

-- a step on the rows, from the state s; afterwards the cells vs have marks beside them
unfoldable pub LeftRows : Going → State → List ℕ → Result ℕ Refusal → List ℕ → List Float → Type 0
LeftRows g s vs (Ok n) ks ds =
    (t : State) × ((g ≡ on t) × ((t.waiting ≡ s.waiting) × (Marked t.stored vs ks ds × (n ≡ length t.stored))))
LeftRows g s vs (Err why) ks ds = Stopped g why

-- a step on the waiting cells
unfoldable pub LeftCells : Bool → Going → State → Result ℕ Refusal → List ℕ → List Float → List Float → List ℕ → Type 0
LeftCells lean g s (Ok w) ks ds es cs = (t : State) × ((g ≡ on t) × ((t.stored ≡ s.stored) × Front lean t ks ds w es cs))
LeftCells lean g s (Err why) ks ds es cs = Stopped g why

-- a step on both
unfoldable pub Left : Bool → Going → Result (ℕ × ℕ) Refusal → List ℕ → List Float → List Float → List ℕ → Type 0
Left lean g (Ok (n, w)) ks ds es cs = (t : State) × ((g ≡ on t) × Held lean t n ks ds w es cs)
Left lean g (Err why) ks ds es cs = Stopped g why

-- once k is stored, it is told of its neighbours who waits
abbrev pub ToldOnce : (ℕ → Bool) → Field → ℕ → State → Type 0
ToldOnce seed f k s =
    (d : Float) (t : State) → t.stored ≡ insert row_before (marched_row k d) s.stored → t.waiting ≡ s.waiting → Told seed f k (f.near k) t

-- once the first waiting cell is taken and stored, it is told of its neighbours who waits
abbrev pub ToldFirst : (ℕ → Bool) → Field → State → Type 0
ToldFirst seed f s =
    (c : Cell) (cs : List Cell)
    → s.waiting ≡ c ∷ cs
    → is_stored c.key s.stored ≡ false
    → ToldOnce seed f c.key (state s.stored cs (suc s.takings))

-- what a step does to lists that hold a state: some neighbours of k wait
abbrev pub DoesWait : Bool → (ℕ → Bool) → Field → ℕ → List ℕ → (State → Going) → List ℕ → List Float → ℕ → List Float → List ℕ → Result ℕ Refusal → List ℕ
    → List Float → List Float → List ℕ → Type 0
DoesWait lean seed f k ns go ks ds w es cs r ks' ds' es' cs' =
    (s : State) → Front lean s ks ds w es cs → Told seed f k ns s → MarksFit lean (length ns) s ks → LeftCells lean (go s) s r ks' ds' es' cs'

-- k, which is not stored yet, is stored
abbrev pub DoesSow : Bool → (ℕ → Bool) → Field → ℕ → (State → Going) → ℕ → List ℕ → List Float → ℕ → List Float → List ℕ → Result (ℕ × ℕ) Refusal → List ℕ → List Float
    → List Float → List ℕ → Type 0
DoesSow lean seed f k go n ks ds w es cs r ks' ds' es' cs' =
    (s : State)
    → Held lean s n ks ds w es cs
    → member k (keys_of s.stored) ≡ false
    → ToldOnce seed f k s
    → MarksFit lean (suc (length (f.near k))) s ks
    → Left lean (go s) r ks' ds' es' cs'

-- the first waiting cell is taken
abbrev pub DoesTake : Bool → (ℕ → Bool) → Field → (State → Going) → ℕ → List ℕ → List Float → ℕ → List Float → List ℕ → Result (ℕ × ℕ) Refusal → List ℕ → List Float
    → List Float → List ℕ → Type 0
DoesTake lean seed f go n ks ds w es cs r ks' ds' es' cs' =
    (s : State)
    → Held lean s n ks ds w es cs
    → ToldFirst seed f s
    → ((k : ℕ) → MarksFit lean (suc (length (f.near k))) s ks)
    → Left lean (go s) r ks' ds' es' cs'

-- the marks of a lean march; of another also that of k, which waits no more
unfoldable pub marking_also : Bool → ℕ → List Cell → List ℕ
marking_also true k cs = []
marking_also false k cs = k ∷ cells_of cs

-- four lists hold a state where k has been taken, and is not stored yet
pub record Taken (lean : Bool) (k : ℕ) (s : State) (n : ℕ) (ks : List ℕ) (ds : List Float) (w : ℕ) (es : List Float) (cs : List ℕ) : Type 0 where
  pub marked : Marked s.stored (marking_also lean k s.waiting) ks ds
  pub heap : Heaped s.waiting w es cs
  pub lattice : (j : ℕ) → member j (cells_of s.waiting) ≡ true → on_lattice j ≡ true
  pub count : n ≡ length s.stored
  pub new : member k (keys_of s.stored) ≡ false

abbrev pub DoesSettle : Bool → (ℕ → Bool) → Field → ℕ → (State → Going) → ℕ → List ℕ → List Float → ℕ → List Float → List ℕ → Result (ℕ × ℕ) Refusal → List ℕ
    → List Float → List Float → List ℕ → Type 0
DoesSettle lean seed f k go n ks ds w es cs r ks' ds' es' cs' =
    (s : State)
    → Taken lean k s n ks ds w es cs
    → ToldOnce seed f k s
    → MarksFit lean (suc (suc (length (f.near k)))) s ks
    → Left lean (go s) r ks' ds' es' cs'
