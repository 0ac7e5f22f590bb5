-- What holds of the seeds and of every settled cell holds of every marched row: no step changes a row. Assumes nothing.
use mathlib.Core.Bool.{◌||◌}
use mathlib.Core.List.{List, [], ◌∷◌}
use Prim.Native.Nat.{ℕ, zero, suc}
use lib.Dec.{ltb}
use lib.ListN.{length}
use lib.Ieee.{Float, le}
use Rattle.marching.specs.March.{MarchedRow, marched_row, Cell, cell, State, Field, Rooms, on, row_before, is_stored, store, cell_before, waits, wait, wait_all, sow, sow_all, settled, onward, spread, settle, visit, taking, take_up_to, nothing, march}
use Rattle.lists.specs.Lists.{All}
use Rattle.lists.proofs.Inserting.{insert_all}
use Rattle.marching.proofs.Sound.{After, after_then, after_cond, after_weaken}

-- K holds of the keys, and passes from a cell to its neighbours; P holds of the rows
module _ (f : Field) (m : Rooms) (K : ℕ → Type 0) (P : MarchedRow → Type 0) (near : (k : ℕ) → K k → All K (f.near k))
    (new : (rs : List MarchedRow) (k : ℕ) → K k → P (marched_row k (settled f rs k))) where
  record Fine (s : State) : Type 0 where
    rows : All P s.stored
    cells : All (λ (c : Cell). K c.key) s.waiting

  wait_fine : (e : Float) (k : ℕ) (s : State) → K k → Fine s → After Fine (wait m.cells e k s)
  unfolding wait After
  wait_fine e k s h g =
      after_cond Fine (is_stored k s.stored || waits k s.waiting) _ _ (λ _. g)
      (λ _. after_cond Fine (ltb (length s.waiting) m.cells) _ _
      (λ _. record { rows = g.rows; cells = insert_all cell_before (cell e k) (λ (c : Cell). K c.key) s.waiting h g.cells })
      (λ _. tt))

  wait_all-fine : (e : Float) (ks : List ℕ) (s : State) → All K ks → Fine s → After Fine (wait_all m.cells e ks s)
  unfolding wait_all After All
  wait_all-fine e [] s h g = g
  wait_all-fine e (k ∷ ks) s h g = after_then Fine Fine (wait m.cells e k s) _ (wait_fine e k s h.0 g) (λ t u. wait_all-fine e ks t h.1 u)

  store_fine : (r : MarchedRow) (s : State) → P r → Fine s → After Fine (store m.rows r s)
  unfolding store After
  store_fine r s h g =
      after_cond Fine (ltb (length s.stored) m.rows) _ _
      (λ _. record { rows = insert_all row_before r P s.stored h g.rows; cells = g.cells })
      (λ _. tt)

  sow_all-fine : (rs : List MarchedRow) (s : State) → All (λ (r : MarchedRow). P r × K r.key) rs → Fine s → After Fine (sow_all f.near m rs s)
  unfolding sow_all sow After All
  sow_all-fine [] s h g = g
  sow_all-fine (r ∷ rs) s h g =
      after_then Fine Fine (sow f.near m r s) _
      (after_then Fine Fine (store m.rows r s) _ (store_fine r s h.0.0 g) (λ t u. wait_all-fine _ _ t (near r.key h.0.1) u))
      (λ t u. sow_all-fine rs t h.1 u)

  visit_fine : (k : ℕ) (s : State) → K k → Fine s → After Fine (visit f m k s)
  unfolding visit settle spread After
  visit_fine k s h g =
      let r = marched_row k (settled f s.stored k) in
      after_cond Fine (is_stored k s.stored) _ _ (λ _. g)
      (λ _. after_then Fine Fine (store m.rows r s) _ (store_fine r s (new s.stored k h) g)
      (λ t u.
      after_cond Fine (le (onward f r.distance) f.most)
      (wait_all m.cells (onward f r.distance) (f.near k) t) (on t) (λ _. wait_all-fine _ _ t (near k h) u)
      (λ _. u)))

  taking_fine : (cs : List Cell) (s : State) → All (λ (c : Cell). K c.key) cs → Fine s → After Fine (taking f m cs s)
  unfolding taking After All
  taking_fine [] s h g = g
  taking_fine (c ∷ cs) s h g = visit_fine c.key _ h.0 (record { rows = g.rows; cells = h.1 })

  take_up_to-fine : (n : ℕ) (s : State) → Fine s → After Fine (take_up_to f m n s)
  unfolding take_up_to After
  take_up_to-fine zero s g = g
  take_up_to-fine (suc n) s g = after_then Fine Fine (taking f m s.waiting s) _ (taking_fine s.waiting s g.cells g) (take_up_to-fine n)

  pub march_rows : (rs : List MarchedRow) → All (λ (r : MarchedRow). P r × K r.key) rs → After (λ s. All P s.stored) (march f m rs)
  unfolding march All
  march_rows rs h =
      after_weaken Fine (λ s. All P s.stored) (march f m rs) (λ s u. u.rows)
      (after_then Fine Fine (sow_all f.near m rs nothing) _ (sow_all-fine rs nothing h (record { rows = tt; cells = tt })) (take_up_to-fine (suc m.rows)))
