-- A march that succeeds gives the same in wider rooms: rooms are only ever compared with what is held. Assumes nothing.
use mathlib.Core.Path.{◌≡◌, refl}
use mathlib.Core.Bool.{Bool, true, false, cond, ◌||◌}
use mathlib.Core.List.{List, [], ◌∷◌}
use Prim.Native.Nat.{ℕ, zero, suc, ◌+◌, ◌-◌, ◌<◌, ◌≤◌, max}
use native.Mathlib.Nat.{zero-add, suc-add}
use native.Mathlib.Omega.{arith}
use borrow.Author.Tests.{ltb-true, lt-ltb}
use lib.Dec.{ltb}
use lib.ListN.{length}
use lib.Ieee.{Float, le}
use Rattle.search.specs.Keys.{ascending}
use Rattle.refusals.specs.declared.Refusal.{Refusal}
use Rattle.marching.specs.March.{MarchedRow, marched_row, Cell, State, Field, Rooms, Going, on, refused, and_then, keys_of, is_stored, store, waits, wait, wait_all, sow, sow_all, settled, onward, spread, settle, visit, taking, take_up_to, nothing, march}
use Rattle.lists.proofs.Bools.{cases}
use Rattle.marching.proofs.Sound.{after_on, Ended, empty_stays, march_ends}

-- where g goes on, h goes on to the same state
unfoldable pub Grows : Going → Going → Type 0
Grows (on s) h = h ≡ on s
Grows (refused why) h = Unit

grows_then : (g h : Going) (f k : State → Going) → Grows g h → ((s : State) → Grows (f s) (k s)) → Grows (and_then g f) (and_then h k)
unfolding Grows and_then
grows_then (on s) h f k e p = rw e (p s)
grows_then (refused why) h f k e p = tt

grows_cond : (b : Bool) (g h k l : Going) → Grows g k → Grows h l → Grows (cond b g h) (cond b k l)
grows_cond true g h k l p q = p
grows_cond false g h k l p q = q

grows_room : (n a b : ℕ) (s : State) (why : Refusal) → a ≤ b → Grows (cond (ltb n a) (on s) (refused why)) (cond (ltb n b) (on s) (refused why))
unfolding Grows
grows_room n a b s why l =
    cases (λ (t : Bool). Grows (cond t (on s) (refused why)) (cond (ltb n b) (on s) (refused why))) (ltb n a)
    (λ e. rw (lt-ltb n b (let h : n < a = ltb-true n a e in omega arith))) (λ e. tt)

grows_on : (s : State) → Grows (on s) (on s)
unfolding Grows
grows_on s = refl

grows_is : (g h : Going) (s : State) → Grows g h → g ≡ on s → h ≡ on s
unfolding Grows
grows_is g h s p e = rw e at p

pub record Wider (m w : Rooms) : Type 0 where
  pub rows : m.rows ≤ w.rows
  pub cells : m.cells ≤ w.cells

module _ (f : Field) (m w : Rooms) (wide : Wider m w) where
  store_grows : (r : MarchedRow) (s : State) → Grows (store m.rows r s) (store w.rows r s)
  unfolding store
  store_grows r s = grows_room (length s.stored) m.rows w.rows _ _ wide.rows

  wait_grows : (e : Float) (k : ℕ) (s : State) → Grows (wait m.cells e k s) (wait w.cells e k s)
  unfolding wait
  wait_grows e k s =
      grows_cond (is_stored k s.stored || waits k s.waiting) _ _ _ _ (grows_on s)
      (grows_room (length s.waiting) m.cells w.cells _ _ wide.cells)

  wait_all-grows : (e : Float) (ks : List ℕ) (s : State) → Grows (wait_all m.cells e ks s) (wait_all w.cells e ks s)
  unfolding wait_all
  wait_all-grows e [] s = grows_on s
  wait_all-grows e (k ∷ ks) s = grows_then (wait m.cells e k s) (wait w.cells e k s) _ _ (wait_grows e k s) (wait_all-grows e ks)

  sow_grows : (r : MarchedRow) (s : State) → Grows (sow f.near m r s) (sow f.near w r s)
  unfolding sow
  sow_grows r s = grows_then (store m.rows r s) (store w.rows r s) _ _ (store_grows r s) (wait_all-grows _ _)

  sow_all-grows : (rs : List MarchedRow) (s : State) → Grows (sow_all f.near m rs s) (sow_all f.near w rs s)
  unfolding sow_all
  sow_all-grows [] s = grows_on s
  sow_all-grows (r ∷ rs) s = grows_then (sow f.near m r s) (sow f.near w r s) _ _ (sow_grows r s) (sow_all-grows rs)

  spread_grows : (r : MarchedRow) (s : State) → Grows (spread f m.cells r s) (spread f w.cells r s)
  unfolding spread
  spread_grows r s = grows_cond (le (onward f r.distance) f.most) _ _ _ _ (wait_all-grows _ _ s) (grows_on s)

  visit_grows : (k : ℕ) (s : State) → Grows (visit f m k s) (visit f w k s)
  unfolding visit settle
  visit_grows k s =
      let r = marched_row k (settled f s.stored k) in
      grows_cond (is_stored k s.stored) _ _ _ _ (grows_on s) (grows_then (store m.rows r s) (store w.rows r s) _ _ (store_grows r s) (spread_grows r))

  taking_grows : (cs : List Cell) (s : State) → Grows (taking f m cs s) (taking f w cs s)
  unfolding taking
  taking_grows [] s = grows_on s
  taking_grows (c ∷ cs) s = visit_grows c.key _

  take_up_to-grows : (n : ℕ) (s : State) → Grows (take_up_to f m n s) (take_up_to f w n s)
  unfolding take_up_to
  take_up_to-grows zero s = grows_on s
  take_up_to-grows (suc n) s = grows_then (taking f m s.waiting s) (taking f w s.waiting s) _ _ (taking_grows s.waiting s) (take_up_to-grows n)

-- takings past the end change nothing
module _ (f : Field) (m : Rooms) (j : ℕ) (s : State) (e : s.waiting ≡ []) where
  further :
      (i : ℕ)
      → ((t : State) → take_up_to f m i t ≡ on s → take_up_to f m (i + j) t ≡ on s)
      → (g : Going)
      → and_then g (take_up_to f m i) ≡ on s
      → and_then g (take_up_to f m (i + j)) ≡ on s
  unfolding and_then
  further i p (refused why) h = absurd (let z : ◌≡◌ {A = ℕ} 0 1 = cc in omega arith)
  further i p (on t) h = p t h

  more : (i : ℕ) (t : State) → take_up_to f m i t ≡ on s → take_up_to f m (i + j) t ≡ on s
  unfolding take_up_to
  more zero t h = let q : t ≡ s = cc in rw (zero-add, q) (empty_stays m f j s e)
  more (suc i) t h = rw suc-add (further i (more i) (taking f m t.waiting t) h)

-- rooms in which a march succeeds, and wider ones, give the same
pub march_wider :
    (f : Field) (m w : Rooms)
    → Wider m w
    → (rs : List MarchedRow)
    → ascending (keys_of rs) ≡ true
    → (s : State)
    → march f m rs ≡ on s
    → march f w rs ≡ on s
unfolding march
march_wider f m w wide rs a s e =
    let z = after_on (Ended m) (march f m rs) s (march_ends m f rs a) e in
    let g =
    grows_is (march f m rs) (and_then (sow_all f.near w rs nothing) (take_up_to f w (suc m.rows))) s
    (grows_then (sow_all f.near m rs nothing) (sow_all f.near w rs nothing) _ _
    (sow_all-grows f m w wide rs nothing) (take_up_to-grows f m w wide (suc m.rows))) e in
    let q : suc m.rows + (w.rows - m.rows) ≡ suc w.rows = omega (arith, wide.rows) in
    rw (← q) (further f w (w.rows - m.rows) s z.empty (suc m.rows)
    (more f w (w.rows - m.rows) s z.empty (suc m.rows)) (sow_all f.near w rs nothing) g)

-- so two marches that succeed give the same, whatever their rooms
pub march_same :
    (f : Field) (m n : Rooms) (rs : List MarchedRow)
    → ascending (keys_of rs) ≡ true
    → (s t : State)
    → march f m rs ≡ on s
    → march f n rs ≡ on t
    → s ≡ t
march_same f m n rs a s t d e =
    let w : Rooms = record { rows = max m.rows n.rows; cells = max m.cells n.cells } in
    let p = march_wider f m w (record { rows = omega arith; cells = omega arith }) rs a s d in
    let q = march_wider f n w (record { rows = omega arith; cells = omega arith }) rs a t e in
    cc
