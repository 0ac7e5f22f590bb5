-- Steps on all four lists: a row is stored, then cells wait; and a cell is taken. Assumes nothing.
use Rattle.std.specs.Prelude.{Ok, Err, Result, Some}
use mathlib.Core.Path.{◌≡◌, refl, sym, ap, subst, ◌∙◌}
use mathlib.Core.Bool.{Bool, true, false, or-true}
use mathlib.Core.List.{List, [], ◌∷◌}
use Prim.Native.Nat.{ℕ, suc, ◌+◌, ◌-◌, ◌<◌}
use native.Mathlib.Nat.{not-suc-le-zero}
use native.Mathlib.Omega.{arith}
use borrow.Author.Tests.{ne_eqb}
use lib.Dec.{eqb}
use lib.ListN.{length, get_or, length-map}
use lib.Ieee.{Float, le, eq}
use Rattle.floats.specs.Floats.{is_finite, size_of}
use Rattle.floats.proofs.Order.{le_first}
use Rattle.heap.specs.Heap.{Heaped}
use Rattle.heap.proofs.Laws.{heaped_key}
use Rattle.ids.specs.Key.{on_lattice}
use Rattle.lists.specs.Lists.{insert}
use Rattle.lists.proofs.Inserting.{insert_length}
use Rattle.neighbors.specs.Neighbors.{neighbours}
use Rattle.search.specs.Keys.{member}
use Rattle.marching.specs.March.{MarchedRow, marched_row, Cell, State, state, Field, Rooms, rooms, Going, on, and_then, row_before, keys_of, cells_of, distance_of, is_stored, store, wait_all, sow, settled, onward, spread, settle, visit, taking, take}
use Rattle.marching.specs.Spreading.{Told}
use Rattle.marching.specs.declared.Course.{Course}
use Rattle.marching.specs.Lattice.{lattice_of}
use Rattle.marching.proofs.Numbers.{settled_finite, number_equal}
use Rattle.marching.proofs.Sound.{after_on}
use Rattle.marching.proofs.Spreading.{no_stored, store_is}
use Rattle.hearing.specs.Hearing.{Marked, said}
use Rattle.refusals.specs.declared.Refusal.{Refusal}
use Rattle.fronts.specs.Fronts.{Fair, marking, marking_also, Front, Held, Taken, MarksFit, rooms_of, LeftRows, LeftCells, Left, ToldOnce, ToldFirst, DoesWait}
use Rattle.fronts.proofs.Marking.{marked_skip, stored_some}
use Rattle.fronts.proofs.Walking.{stopped_then, stopped_by}

-- what is at most something is a number
pub number_le : (x y : Float) → le x y ≡ true → eq x x ≡ true
number_le x y h = number_equal x (le_first x y h)

-- once k is stored, it is told who of its neighbours waits
pub told_stored : (seed : ℕ → Bool) (f : Field) (k : ℕ) (s : State) → ToldOnce seed f k s
    → (room : ℕ) (d : Float) (t : State)
    → store room (marched_row k d) s ≡ on t
    → Told seed f k (f.near k) t
told_stored seed f k s told room d t e =
    let i =
    after_on (λ t. t ≡ state (insert row_before (marched_row k d) s.stored) s.waiting s.takings) (store room (marched_row k d) s) t
    (store_is room (marched_row k d) s) e in
    told d t (ap (λ (x : State). x.stored) i) (ap (λ (x : State). x.waiting) i)

-- a place less for marks
pub stored_room :
    (lean : Bool) (m n : ℕ) (r : MarchedRow) (s : State) (ks ks' : List ℕ)
    → length ks' ≡ length ks
    → MarksFit lean (suc n) s ks
    → (t : State)
    → store m r s ≡ on t
    → MarksFit lean n t ks'
stored_room lean m n r s ks ks' wide room t e q =
    let i = after_on (λ t. t ≡ state (insert row_before r s.stored) s.waiting s.takings) (store m r s) t (store_is m r s) e in
    let a = ap (λ (x : State). length x.stored) i in
    let b = ap (λ (x : State). length x.waiting) i in
    let l = insert_length row_before r s.stored in
    let c = room q in
    omega arith

-- ---- a row is stored (g), then cells wait (go)

module _ (lean : Bool) (seed : ℕ → Bool) (f : Field) (k : ℕ) (g : Going) (go : State → Going) (s : State) (w : ℕ) (es : List Float) (cs : List ℕ)
    (h : Heaped s.waiting w es cs) (lattice : (j : ℕ) → member j (cells_of s.waiting) ≡ true → on_lattice j ≡ true) (p : Result ℕ Refusal) (ks : List ℕ)
    (ds : List Float) (did : LeftRows g s (marking lean s.waiting) p ks ds) where
  pub no_row : (why : Refusal) → p ≡ Err why → (es' : List Float) (cs' : List ℕ) → Left lean (and_then g go) (Err why) ks ds es' cs'
  unfolding LeftRows Left
  no_row why e es' cs' = stopped_then g go why (subst (λ (o : Result ℕ Refusal). LeftRows g s (marking lean s.waiting) o ks ds) e did)

  module _ (told : (t : State) → g ≡ on t → Told seed f k (f.near k) t) (room : (t : State) → g ≡ on t → MarksFit lean (length (f.near k)) t ks) (n : ℕ)
      (e : p ≡ Ok n) (q : Result ℕ Refusal) (ks' : List ℕ) (ds' es' : List Float) (cs' : List ℕ)
      (then-did : DoesWait lean seed f k (f.near k) go ks ds w es cs q ks' ds' es' cs') where
    stored : LeftRows g s (marking lean s.waiting) (Ok n) ks ds
    stored = subst (λ (o : Result ℕ Refusal). LeftRows g s (marking lean s.waiting) o ks ds) e did

    front : (t : State)
        → t.waiting ≡ s.waiting
        → Marked t.stored (marking lean s.waiting) ks ds
        → Front lean t ks ds w es cs
    front t a m =
        record {
          marked = subst (λ (l : List Cell). Marked t.stored (marking lean l) ks ds) (sym a) m;
          heap = subst (λ (l : List Cell). Heaped l w es cs) (sym a) h;
          lattice = λ j i. lattice j (sym (ap (λ (l : List Cell). member j (cells_of l)) a) ∙ i);
        }

    waited : (o : Result ℕ Refusal) → q ≡ o → (t : State) → Front lean t ks ds w es cs → g ≡ on t → LeftCells lean (go t) t o ks' ds' es' cs'
    waited o a t b m = subst (λ (o : Result ℕ Refusal). LeftCells lean (go t) t o ks' ds' es' cs') a (then-did t b (told t m) (room t m))

    pub no_cell : (why : Refusal) → q ≡ Err why → Left lean (and_then g go) (Err why) ks' ds' es' cs'
    unfolding LeftRows LeftCells Left and_then
    no_cell why a =
        let x = stored in
        stopped_by (and_then g go) (go x.0) why (ap (λ (y : Going). and_then y go) x.1.0)
        (waited (Err why) a x.0 (front x.0 x.1.1.0 x.1.1.1.0) x.1.0)

    pub both_done : (w' : ℕ) → q ≡ Ok w' → Left lean (and_then g go) (Ok (n, w')) ks' ds' es' cs'
    unfolding LeftRows LeftCells Left and_then
    both_done w' a =
        let x = stored in
        let y = waited (Ok w') a x.0 (front x.0 x.1.1.0 x.1.1.1.0) x.1.0 in (
          y.0,
          (
            ap (λ (z : Going). and_then z go) x.1.0 ∙ y.1.0,
            record { front = y.1.1.1; count = x.1.1.1.1 ∙ ap length (sym y.1.1.0) },
          ),
        )

-- an equal estimate serves as well
pub with_size :
    (lean : Bool) (seed : ℕ → Bool) (f : Field) (k m : ℕ) (e e' : Float) (ns : List ℕ) (ks : List ℕ) (ds : List Float) (w : ℕ) (es : List Float)
    (cs : List ℕ) (q : Result ℕ Refusal) (ks' : List ℕ) (ds' es' : List Float) (cs' : List ℕ)
    → e ≡ e'
    → DoesWait lean seed f k ns (wait_all m e ns) ks ds w es cs q ks' ds' es' cs'
    → DoesWait lean seed f k ns (wait_all m e' ns) ks ds w es cs q ks' ds' es' cs'
with_size lean seed f k m e e' ns ks ds w es cs q ks' ds' es' cs' a did =
    subst (λ (x : Float). DoesWait lean seed f k ns (wait_all m x ns) ks ds w es cs q ks' ds' es' cs') a did

-- ---- the neighbours of a settled cell

module _ (lean : Bool) (seed : ℕ → Bool) (f : Field) (r : MarchedRow) (ks : List ℕ) (ds : List Float) (w : ℕ) (es : List Float) (cs : List ℕ) (e : Float)
    (o : e ≡ onward f r.distance) (b : Bool) (asked : b ≡ le e f.most) where
  pub spread_waits :
      b ≡ true
      → (q : Result ℕ Refusal) (ks' : List ℕ) (ds' es' : List Float) (cs' : List ℕ)
      → DoesWait lean seed f r.key (f.near r.key) (wait_all (length cs) e (f.near r.key)) ks ds w es cs q ks' ds' es' cs'
      → DoesWait lean seed f r.key (f.near r.key) (spread f (length cs) r) ks ds w es cs q ks' ds' es' cs'
  unfolding spread
  spread_waits a q ks' ds' es' cs' did s h told room =
      subst (λ (g : Going). LeftCells lean g s q ks' ds' es' cs') (sym (rw (← o, ← asked, a))) (did s h told room)

  pub spread_stays : b ≡ false → DoesWait lean seed f r.key (f.near r.key) (spread f (length cs) r) ks ds w es cs (Ok w) ks ds es cs
  unfolding spread LeftCells
  spread_stays a s h told room = (s, (rw (← o, ← asked, a), (refl, h)))

-- ---- a cell gets its distance

pub settle_by :
    (lean : Bool) (f : Field) (m : Rooms) (k : ℕ) (s : State) (d : Float)
    → d ≡ settled f s.stored k
    → (r : Result (ℕ × ℕ) Refusal) (ks : List ℕ) (ds : List Float) (es : List Float) (cs : List ℕ)
    → Left lean (and_then (store m.rows (marched_row k d) s) (spread f m.cells (marched_row k d))) r ks ds es cs
    → Left lean (settle f m k s) r ks ds es cs
unfolding settle
settle_by lean f m k s d e r ks ds es cs did =
    subst (λ (d : Float). Left lean (and_then (store m.rows (marched_row k d) s) (spread f m.cells (marched_row k d))) r ks ds es cs) e did

-- once a taken cell is stored, its waiting no more changes no mark
pub taken_same : (lean : Bool) (k : ℕ) (cs : List Cell) (j : ℕ) → (k ≡ j → ⊥) → member j (marking_also lean k cs) ≡ member j (marking lean cs)
unfolding member marking_also marking
taken_same true k cs j d = refl
taken_same false k cs j d = rw (ne_eqb k j d)

-- marks of stored and waiting cells leave a place, in a lean march where rows do
pub marks_spare : (lean : Bool) (n : ℕ) (s : State) (ks : List ℕ) → MarksFit lean (suc n) s ks → length s.stored < length ks
    → length s.stored + length (marking lean s.waiting) < length ks
unfolding marking
marks_spare true n s ks room l = omega arith
marks_spare false n s ks room l = let a = room refl in let b = length-map s.waiting (λ (c : Cell). c.key) in omega arith

-- and that of a cell that was taken
pub taken_spare : (lean : Bool) (k n : ℕ) (s : State) (ks : List ℕ) → MarksFit lean (suc (suc n)) s ks → length s.stored < length ks
    → length s.stored + length (marking_also lean k s.waiting) < length ks
unfolding marking_also
taken_spare true k n s ks room l = omega arith
taken_spare false k n s ks room l = let a = room refl in let b = length-map s.waiting (λ (c : Cell). c.key) in omega arith

-- ---- the first waiting cell is taken

pub uncons : (cs : List Cell) (w : ℕ) → w ≡ length cs → 0 < w → (c : Cell) × ((ds : List Cell) × (cs ≡ c ∷ ds))
uncons [] w e l = absurd (not-suc-le-zero (rw e at l))
uncons (c ∷ cs) w e l = (c, (cs, refl))

also : (lean : Bool) (c : Cell) (l : List Cell) → marking lean (c ∷ l) ≡ marking_also lean c.key l
unfolding marking marking_also
also true c l = refl
also false c l = refl

skips : (lean : Bool) (k : ℕ) (l : List Cell) (rs : List MarchedRow) (ks : List ℕ) (ds : List Float) (d : Float)
    → distance_of k rs ≡ Some d
    → Marked rs (marking_also lean k l) ks ds
    → Marked rs (marking lean l) ks ds
unfolding marking marking_also
skips true k l rs ks ds d e h = h
skips false k l rs ks ds d e h = marked_skip k rs (cells_of l) ks ds d e h

module _ (lean : Bool) (seed : ℕ → Bool) (f : Field) (s : State) (n : ℕ) (ks : List ℕ) (ds : List Float) (w : ℕ) (es : List Float) (cs : List ℕ)
    (h : Held lean s n ks ds w es cs) (l : 0 < w) (es' : List Float) (cs' : List ℕ)
    (popped : (c : Cell) (l : List Cell) → Heaped (c ∷ l) w es cs → Heaped l (w - 1) es' cs')
    (long : length cs' ≡ length cs) (d : Float)
    (known : (rs : List MarchedRow) (ws : List ℕ) → Marked rs ws ks ds → distance_of (get_or cs 0 0) rs ≡ said d) where
  parts : (c : Cell) × ((l : List Cell) × (s.waiting ≡ c ∷ l))
  parts = uncons s.waiting w h.front.heap.counted l

  abbrev after : State
  after = state s.stored parts.1.0 (suc s.takings)

  full : Heaped (parts.0 ∷ parts.1.0) w es cs
  full = subst (λ (x : List Cell). Heaped x w es cs) parts.1.1 h.front.heap

  key_is : get_or cs 0 0 ≡ parts.0.key
  key_is = heaped_key parts.0 parts.1.0 w es cs full

  marked_all : Marked s.stored (marking_also lean (get_or cs 0 0) parts.1.0) ks ds
  marked_all =
      subst (λ (k : ℕ). Marked s.stored (marking_also lean k parts.1.0) ks ds) (sym key_is)
      (subst (λ (x : List ℕ). Marked s.stored x ks ds) (ap (marking lean) parts.1.1 ∙ also lean parts.0 parts.1.0) h.front.marked)

  others_lattice : (j : ℕ) → member j (cells_of parts.1.0) ≡ true → on_lattice j ≡ true
  unfolding member
  others_lattice j i =
      h.front.lattice j (ap (λ (x : List Cell). member j (cells_of x)) parts.1.1 ∙ rw i (or-true (eqb parts.0.key j)))

  taken : take f (rooms_of ks cs) s ≡ visit f (rooms_of ks cs) (get_or cs 0 0) after
  unfolding taking
  taken = ap (λ (x : List Cell). taking f (rooms_of ks cs) x s) parts.1.1 ∙ ap (λ (k : ℕ). visit f (rooms_of ks cs) k after) (sym key_is)

  here : distance_of (get_or cs 0 0) s.stored ≡ said d
  here = known s.stored (marking_also lean (get_or cs 0 0) parts.1.0) marked_all

  pub take_skips : is_finite d ≡ true → Left lean (take f (rooms_of ks cs) s) (Ok (n, w - 1)) ks ds es' cs'
  unfolding Left visit
  take_skips a =
      let e : distance_of (get_or cs 0 0) s.stored ≡ Some d = here ∙ rw a in (
        after,
        (
          taken ∙ rw (stored_some (get_or cs 0 0) s.stored d e),
          record {
            front = record {
              marked = skips lean (get_or cs 0 0) parts.1.0 s.stored ks ds d e marked_all;
              heap = popped parts.0 parts.1.0 full;
              lattice = others_lattice;
            };
            count = h.count;
          },
        ),
      )

  pub take_settles :
      is_finite d ≡ false
      → ToldFirst seed f s
      → ((k : ℕ) → MarksFit lean (suc (length (f.near k))) s ks)
      → (r : Result (ℕ × ℕ) Refusal) (ks' : List ℕ) (ds' es'' : List Float) (cs'' : List ℕ)
      → ((t : State)
      → Taken lean (get_or cs 0 0) t n ks ds (w - 1) es' cs'
      → ToldOnce seed f (get_or cs 0 0) t
      → MarksFit lean (suc (suc (length (f.near (get_or cs 0 0))))) t ks
      → Left lean (settle f (rooms_of ks cs') (get_or cs 0 0) t) r ks' ds' es'' cs'')
      → Left lean (take f (rooms_of ks cs) s) r ks' ds' es'' cs''
  unfolding visit
  take_settles a told room r ks' ds' es'' cs'' did =
      let o : member (get_or cs 0 0) (keys_of s.stored) ≡ false = no_stored (get_or cs 0 0) s.stored (here ∙ rw a) in
      let once : ToldOnce seed f (get_or cs 0 0) after =
      subst (λ (k : ℕ). ToldOnce seed f k after) (sym key_is)
      (told parts.0 parts.1.0 parts.1.1 (sym (ap (λ (k : ℕ). is_stored k s.stored) key_is) ∙ o)) in
      subst (λ (g : Going). Left lean g r ks' ds' es'' cs'') (sym (taken ∙ rw o))
      (subst (λ (m : ℕ). Left lean (settle f (rooms (length ks) m) (get_or cs 0 0) after) r ks' ds' es'' cs'') long
      (did after
      (record {
        marked = marked_all;
        heap = popped parts.0 parts.1.0 full;
        lattice = others_lattice;
        count = h.count;
        new = o;
      })
      once (λ q. let x = room (get_or cs 0 0) q in let y = ap length parts.1.1 in omega arith)))

-- a settled distance is finite
pub finite_by : (c : Course) (d : Float) (rs : List MarchedRow) (k : ℕ) → Fair c → d ≡ settled (lattice_of c) rs k → is_finite d ≡ true
finite_by c d rs k fair e = rw e (settled_finite (lattice_of c) rs k fair.least fair.finite)

-- ---- the two steps whole

-- what storing k at the distance d says
abbrev pub Stores : ℕ → Float → ℕ → List ℕ → List Float → Result ℕ Refusal → List ℕ → List Float → Type 0
Stores k d n ks ds p ks' ds' =
    (s : State) (ws vs : List ℕ)
    → Marked s.stored ws ks ds
    → ((j : ℕ) → (k ≡ j → ⊥) → member j ws ≡ member j vs)
    → (length s.stored < length ks → length s.stored + length ws < length ks)
    → is_finite d ≡ true
    → n ≡ length s.stored
    → member k (keys_of s.stored) ≡ false
    → LeftRows (store (length ks) (marched_row k d) s) s vs p ks' ds'

-- a seed is sown
module _ (c : Course) (lean : Bool) (seed : ℕ → Bool) (k n : ℕ) (ks : List ℕ) (ds : List Float) (w : ℕ) (es : List Float) (cs : List ℕ) (s : State)
    (h : Held lean s n ks ds w es cs) (o : member k (keys_of s.stored) ≡ false) (told : ToldOnce seed (lattice_of c) k s)
    (room : MarksFit lean (suc (length (neighbours k))) s ks) (d : Float) (finite : is_finite d ≡ true) (p : Result ℕ Refusal) (ks₁ : List ℕ) (ds₁ : List Float)
    (wide : length ks₁ ≡ length ks) (stores : Stores k d n ks ds p ks₁ ds₁) where
  sown_row : LeftRows (store (length ks) (marched_row k d) s) s (marking lean s.waiting) p ks₁ ds₁
  sown_row =
      stores s (marking lean s.waiting) (marking lean s.waiting) h.front.marked (λ j _. refl)
      (marks_spare lean (length (neighbours k)) s ks room) finite h.count o

  after_room : (t : State) → store (length ks) (marched_row k d) s ≡ on t → MarksFit lean (length (neighbours k)) t ks₁
  after_room = stored_room lean (length ks) (length (neighbours k)) (marched_row k d) s ks ks₁ wide room

  pub sow_no_row : (why : Refusal) → p ≡ Err why → Left lean (sow neighbours (rooms_of ks cs) (marched_row k d) s) (Err why) ks₁ ds₁ es cs
  unfolding sow
  sow_no_row why e =
      no_row lean seed (lattice_of c) k (store (length ks) (marched_row k d) s) (wait_all (length cs) (size_of d) (neighbours k)) s w es cs
      h.front.heap h.front.lattice p ks₁ ds₁ sown_row why e es cs

  module _ (m : ℕ) (e : p ≡ Ok m) (x : Float) (is : x ≡ size_of d) (q : Result ℕ Refusal) (ks' : List ℕ) (ds' es' : List Float) (cs' : List ℕ)
      (waits : DoesWait lean seed (lattice_of c) k (neighbours k) (wait_all (length cs) x (neighbours k)) ks₁ ds₁ w es cs q ks' ds' es' cs') where
    pub sow_no_cell : (why : Refusal) → q ≡ Err why → Left lean (sow neighbours (rooms_of ks cs) (marched_row k d) s) (Err why) ks' ds' es' cs'
    unfolding sow
    sow_no_cell why a =
        no_cell lean seed (lattice_of c) k (store (length ks) (marched_row k d) s) (wait_all (length cs) (size_of d) (neighbours k)) s w es cs
        h.front.heap h.front.lattice p ks₁ ds₁ sown_row (λ t g. told_stored seed (lattice_of c) k s told (length ks) d t g) after_room m e q
        ks' ds' es' cs'
        (with_size lean seed (lattice_of c) k (length cs) x (size_of d) (neighbours k) ks₁ ds₁ w es cs q ks' ds' es' cs' is waits) why a

    pub sow_done : (w' : ℕ) → q ≡ Ok w' → Left lean (sow neighbours (rooms_of ks cs) (marched_row k d) s) (Ok (m, w')) ks' ds' es' cs'
    unfolding sow
    sow_done w' a =
        both_done lean seed (lattice_of c) k (store (length ks) (marched_row k d) s) (wait_all (length cs) (size_of d) (neighbours k)) s w es cs
        h.front.heap h.front.lattice p ks₁ ds₁ sown_row (λ t g. told_stored seed (lattice_of c) k s told (length ks) d t g) after_room m e q
        ks' ds' es' cs'
        (with_size lean seed (lattice_of c) k (length cs) x (size_of d) (neighbours k) ks₁ ds₁ w es cs q ks' ds' es' cs' is waits) w' a

-- a taken cell is settled
module _ (c : Course) (fair : Fair c) (lean : Bool) (seed : ℕ → Bool) (k n : ℕ) (ks : List ℕ) (ds : List Float) (w : ℕ) (es : List Float) (cs : List ℕ)
    (s : State) (h : Taken lean k s n ks ds w es cs) (told : ToldOnce seed (lattice_of c) k s)
    (room : MarksFit lean (suc (suc (length (neighbours k)))) s ks) (d : Float) (is : d ≡ settled (lattice_of c) s.stored k)
    (p : Result ℕ Refusal) (ks₁ : List ℕ) (ds₁ : List Float) (wide : length ks₁ ≡ length ks) (stores : Stores k d n ks ds p ks₁ ds₁) where
  settled_row : LeftRows (store (length ks) (marched_row k d) s) s (marking lean s.waiting) p ks₁ ds₁
  settled_row =
      stores s (marking_also lean k s.waiting) (marking lean s.waiting) h.marked (taken_same lean k s.waiting)
      (taken_spare lean k (length (neighbours k)) s ks room) (finite_by c d s.stored k fair is) h.count h.new

  settled_room : (t : State) → store (length ks) (marched_row k d) s ≡ on t → MarksFit lean (length (neighbours k)) t ks₁
  settled_room =
      stored_room lean (length ks) (length (neighbours k)) (marched_row k d) s ks ks₁ wide (λ q. let a = room q in omega arith)

  pub settle_no_row : (why : Refusal) → p ≡ Err why → Left lean (settle (lattice_of c) (rooms_of ks cs) k s) (Err why) ks₁ ds₁ es cs
  settle_no_row why e =
      settle_by lean (lattice_of c) (rooms_of ks cs) k s d is (Err why) ks₁ ds₁ es cs
      (no_row lean seed (lattice_of c) k (store (length ks) (marched_row k d) s) (spread (lattice_of c) (length cs) (marched_row k d)) s w es cs
      h.heap h.lattice p ks₁ ds₁ settled_row why e es cs)

  module _ (m : ℕ) (e : p ≡ Ok m) (q : Result ℕ Refusal) (ks' : List ℕ) (ds' es' : List Float) (cs' : List ℕ)
      (waits : DoesWait lean seed (lattice_of c) k (neighbours k) (spread (lattice_of c) (length cs) (marched_row k d)) ks₁ ds₁ w es cs q ks' ds' es' cs') where
    pub settle_no_cell : (why : Refusal) → q ≡ Err why → Left lean (settle (lattice_of c) (rooms_of ks cs) k s) (Err why) ks' ds' es' cs'
    settle_no_cell why a =
        settle_by lean (lattice_of c) (rooms_of ks cs) k s d is (Err why) ks' ds' es' cs'
        (no_cell lean seed (lattice_of c) k (store (length ks) (marched_row k d) s) (spread (lattice_of c) (length cs) (marched_row k d)) s w es cs
        h.heap h.lattice p ks₁ ds₁ settled_row (λ t g. told_stored seed (lattice_of c) k s told (length ks) d t g) settled_room m e q ks' ds' es'
        cs' waits why a)

    pub settle_done : (w' : ℕ) → q ≡ Ok w' → Left lean (settle (lattice_of c) (rooms_of ks cs) k s) (Ok (m, w')) ks' ds' es' cs'
    settle_done w' a =
        settle_by lean (lattice_of c) (rooms_of ks cs) k s d is (Ok (m, w')) ks' ds' es' cs'
        (both_done lean seed (lattice_of c) k (store (length ks) (marched_row k d) s) (spread (lattice_of c) (length cs) (marched_row k d)) s w es cs
        h.heap h.lattice p ks₁ ds₁ settled_row (λ t g. told_stored seed (lattice_of c) k s told (length ks) d t g) settled_room m e q ks' ds' es'
        cs' waits w' a)
