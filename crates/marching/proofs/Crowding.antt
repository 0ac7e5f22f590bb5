-- How full the lists get: what a step adds to rows and waiting cells, and when a march is sure to end for want of a row's place. Assumes nothing.
use mathlib.Core.Path.{◌≡◌, refl, ap, ◌∙◌}
use mathlib.Core.Bool.{Bool, true, false, cond, ◌||◌}
use mathlib.Core.List.{List, [], ◌∷◌}
use Prim.Native.Nat.{ℕ, zero, suc, ◌+◌, ◌*◌, ◌-◌, ◌<◌, ◌≤◌}
use native.Mathlib.Omega.{arith}
use borrow.Author.Tests.{ltb-true, ltb-false, leb-true}
use lib.Dec.{ltb}
use lib.ListN.{length}
use lib.Ieee.{Float, le}
use Rattle.lists.proofs.Bools.{cases, and_first, and_second}
use Rattle.lists.proofs.Inserting.{insert_length}
use Rattle.refusals.specs.declared.Refusal.TheVariants.{NoPlace}
use Rattle.marching.specs.March.{MarchedRow, marched_row, Cell, cell, State, state, Field, Rooms, Going, on, refused, and_then, cell_before, is_stored, waits, store, wait, wait_all, sow, settled, onward, spread, settle, visit, taking, take_up_to}
use Rattle.marching.specs.Crowding.{surely_full}
use Rattle.marching.proofs.Sound.{After, after_then, after_cond, after_weaken, Sound, takings_few, Ended, take_up_to-ends}

-- ---- what a step adds

-- t is s with at most n cells more that wait
pub record Waiting (n : ℕ) (s t : State) : Type 0 where
  pub rows : length t.stored ≡ length s.stored
  pub least : length s.waiting ≤ length t.waiting
  pub most : length t.waiting ≤ length s.waiting + n
  pub takings : t.takings ≡ s.takings

still : (n : ℕ) (s : State) → Waiting n s s
still n s = record { rows = refl; least = omega arith; most = omega arith; takings = refl }

module _ (room : ℕ) (e : Float) where
  pub wait_adds : (k : ℕ) (s : State) → After (Waiting 1 s) (wait room e k s)
  unfolding wait After
  wait_adds k s =
      after_cond (Waiting 1 s) (is_stored k s.stored || waits k s.waiting) _ _ (λ _. still 1 s)
      (λ _. after_cond (Waiting 1 s) (ltb (length s.waiting) room) _ _
      (λ _.
      let l = insert_length cell_before (cell e k) s.waiting in
      record { rows = refl; least = omega arith; most = omega arith; takings = refl })
      (λ _. tt))

  pub wait_all-adds : (ks : List ℕ) (s : State) → After (Waiting (length ks) s) (wait_all room e ks s)
  unfolding wait_all After
  wait_all-adds [] s = still 0 s
  wait_all-adds (k ∷ ks) s =
      after_then (Waiting 1 s) (Waiting (suc (length ks)) s) (wait room e k s) _ (wait_adds k s)
      (λ t u. after_weaken (Waiting (length ks) t) (Waiting (suc (length ks)) s) (wait_all room e ks t)
      (λ v w. record {
        rows = w.rows ∙ u.rows;
        least = let a = u.least in let b = w.least in omega arith;
        most = let a = u.most in let b = w.most in omega arith;
        takings = w.takings ∙ u.takings;
      })
      (wait_all-adds ks t))

-- t is s with a row more, which had a place
record OneMore (room : ℕ) (s t : State) : Type 0 where
  rows : length t.stored ≡ suc (length s.stored)
  place : length s.stored < room
  cells : t.waiting ≡ s.waiting
  takings : t.takings ≡ s.takings

store_adds : (room : ℕ) (r : MarchedRow) (s : State) → After (OneMore room s) (store room r s)
unfolding store After
store_adds room r s =
    after_cond (OneMore room s) (ltb (length s.stored) room) _ _
    (λ q. record { rows = insert_length _ r s.stored; place = ltb-true _ _ q; cells = refl; takings = refl }) (λ _. tt)

-- rows and waiting cells are together at most n more
abbrev pub Fuller : ℕ → State → State → Type 0
Fuller n s t = length t.stored + length t.waiting ≤ length s.stored + length s.waiting + n

pub sow_adds : (near : ℕ → List ℕ) (m : Rooms) (r : MarchedRow) (s : State) → After (Fuller (suc (length (near r.key))) s) (sow near m r s)
unfolding sow
sow_adds near m r s =
    after_then (OneMore m.rows s) (Fuller (suc (length (near r.key))) s) (store m.rows r s) _ (store_adds m.rows r s)
    (λ t u. after_weaken (Waiting (length (near r.key)) t) (Fuller (suc (length (near r.key))) s) _
    (λ v w.
    let a = w.rows in
    let b = u.rows in
    let c = w.most in
    let d = ap length u.cells in
    omega arith)
    (wait_all-adds m.cells _ (near r.key) t))

-- takings and waiting cells are no fewer
abbrev pub NoFewer : State → State → Type 0
NoFewer s t = s.takings + length s.waiting ≤ t.takings + length t.waiting

-- a taking adds at most 15, where a cell has at most 14 neighbours; takings and waiting cells are never fewer after it; and waiting cells with 14 for each
-- place that is left for a row are never more
pub record Took (m : Rooms) (s t : State) : Type 0 where
  pub fuller : Fuller 15 s t
  pub ahead : NoFewer s t
  pub eased : length t.waiting + 14 * (m.rows - length t.stored) ≤ length s.waiting + 14 * (m.rows - length s.stored)

module _ (f : Field) (few : (k : ℕ) → length (f.near k) ≤ 14) (m : Rooms) where
  spread_adds : (r : MarchedRow) (s : State) → After (Waiting 14 s) (spread f m.cells r s)
  unfolding spread After
  spread_adds r s =
      let w = wait_all m.cells (onward f r.distance) (f.near r.key) s in
      after_cond (Waiting 14 s) (le (onward f r.distance) f.most) w (on s)
      (λ _. after_weaken (Waiting (length (f.near r.key)) s) (Waiting 14 s) w
      (λ t u. record {
        rows = u.rows;
        least = u.least;
        most = let a = u.most in let b = few r.key in omega arith;
        takings = u.takings;
      })
      (wait_all-adds m.cells (onward f r.distance) (f.near r.key) s))
      (λ _. still 14 s)

  pub taking_adds : (c : Cell) (cs : List Cell) (s : State) → s.waiting ≡ c ∷ cs → After (Took m s) (taking f m (c ∷ cs) s)
  unfolding taking visit settle After
  taking_adds c cs s e =
      let one : length s.waiting ≡ suc (length cs) = ap length e in
      after_cond (Took m s) (is_stored c.key s.stored) _ _
      (λ _. record { fuller = omega arith; ahead = omega arith; eased = omega arith })
      (λ _.
      let after = state s.stored cs (suc s.takings) in
      let r = marched_row c.key (settled f s.stored c.key) in
      after_then (OneMore m.rows after) (Took m s) (store m.rows r after) (spread f m.cells r) (store_adds m.rows r after)
      (λ t u. after_weaken (Waiting 14 t) (Took m s) (spread f m.cells r t)
      (λ v w.
      let a = u.rows in
      let b = u.place in
      let i = ap length u.cells in
      let j = u.takings in
      let x = w.rows in
      let y = w.least in
      let z = w.most in
      let q = w.takings in
      record { fuller = omega arith; ahead = omega arith; eased = omega arith })
      (spread_adds r t)))

-- ---- refused for want of a row's place alone

-- a step goes on, or has no place for a row
unfoldable pub Spared : Going → Type 0
Spared (on s) = Unit
Spared (refused why) = why ≡ NoPlace

spared_then : (P : State → Type 0) (g : Going) (f : State → Going) → After P g → Spared g → ((s : State) → P s → Spared (f s)) → Spared (and_then g f)
unfolding Spared After and_then
spared_then P (on s) f p q h = h s p
spared_then P (refused why) f p q h = q

spared_cond : (b : Bool) (g h : Going) → (b ≡ true → Spared g) → (b ≡ false → Spared h) → Spared (cond b g h)
spared_cond b g h p q = cases (λ (c : Bool). Spared (cond c g h)) b p q

wait_all-spared : (room : ℕ) (e : Float) (ks : List ℕ) (s : State) → length s.waiting + length ks ≤ room → Spared (wait_all room e ks s)
unfolding wait_all wait Spared
wait_all-spared room e [] s l = tt
wait_all-spared room e (k ∷ ks) s l =
    spared_then (Waiting 1 s) (wait room e k s) _ (wait_adds room e k s)
    (spared_cond (is_stored k s.stored || waits k s.waiting) _ _ (λ _. tt)
    (λ _. spared_cond (ltb (length s.waiting) room) _ _ (λ _. tt) (λ q. absurd (let o = ltb-false (length s.waiting) room q in omega arith))))
    (λ t u. wait_all-spared room e ks t (let a = u.most in omega arith))

module _ (f : Field) (few : (k : ℕ) → length (f.near k) ≤ 14) (m : Rooms) where
  taking_spared :
      (c : Cell) (cs : List Cell) (s : State)
      → s.waiting ≡ c ∷ cs
      → length s.waiting + 14 * (m.rows - length s.stored) ≤ m.cells
      → Spared (taking f m (c ∷ cs) s)
  unfolding taking visit settle store spread Spared
  taking_spared c cs s e l =
      let one : length s.waiting ≡ suc (length cs) = ap length e in
      spared_cond (is_stored c.key s.stored) _ _ (λ _. tt)
      (λ _.
      let after = state s.stored cs (suc s.takings) in
      let r = marched_row c.key (settled f s.stored c.key) in
      spared_then (OneMore m.rows after) (store m.rows r after) (spread f m.cells r) (store_adds m.rows r after)
      (spared_cond (ltb (length s.stored) m.rows) _ (refused NoPlace) (λ _. tt) (λ _. refl))
      (λ t u. spared_cond (le (onward f r.distance) f.most) _ (on t)
      (λ _. wait_all-spared m.cells (onward f r.distance) (f.near c.key) t
      (let a = u.place in
      let i = ap length u.cells in
      let b = few c.key in
      omega arith))
      (λ _. tt)))

  -- every further taking
  take_up_to-spared :
      (i : ℕ) (s : State)
      → length s.waiting + 14 * (m.rows - length s.stored) ≤ m.cells
      → Spared (take_up_to f m i s) × After (NoFewer s) (take_up_to f m i s)
  unfolding take_up_to taking and_then Spared After
  take_up_to-spared zero s l = (tt, omega arith)
  take_up_to-spared (suc i) s l = go s.waiting refl (λ t n. take_up_to-spared i t n)
    where
      go :
          (cs : List Cell)
          → s.waiting ≡ cs
          → ((t : State)
          → length t.waiting + 14 * (m.rows - length t.stored) ≤ m.cells
          → Spared (take_up_to f m i t) × After (NoFewer t) (take_up_to f m i t))
          → Spared (and_then (taking f m cs s) (take_up_to f m i)) × After (NoFewer s) (and_then (taking f m cs s) (take_up_to f m i))
      go [] e next = next s l
      go (c ∷ cs) e next = (
        spared_then (Took m s) (taking f m (c ∷ cs) s) (take_up_to f m i) (taking_adds f few m c cs s e) (taking_spared c cs s e l)
            (λ t u. (next t (let a = u.eased in omega arith)).0),
        after_then (Took m s) (NoFewer s) (taking f m (c ∷ cs) s) (take_up_to f m i) (taking_adds f few m c cs s e)
            (λ t u. after_weaken (NoFewer t) (NoFewer s) (take_up_to f m i t) (λ v w. let a = u.ahead in omega arith)
            (next t (let a = u.eased in omega arith)).1),
      )

  -- Takings and waiting cells are together more than the rows that have a place: the march ends refused, since every waiting cell is taken once more and
  -- takings are at most the rows. And each place that is left for a row adds at most 14 waiting cells, which all have a place: it is refused with 6.
  pub crowded :
      (i n : ℕ) (s : State)
      → Sound m n s
      → m.rows < i + n
      → surely_full m.rows m.cells (length s.stored) (length s.waiting) n ≡ true
      → take_up_to f m i s ≡ refused NoPlace
  unfolding Spared After
  crowded i n s h enough full =
      go (take_up_to f m i s) (take_up_to-spared i s (leb-true (length s.waiting + 14 * (m.rows - length s.stored)) m.cells (and_second many _ full)))
      (take_up_to-ends m f i n s h enough)
    where
      many : Bool
      many = ltb m.rows (n + length s.waiting)

      go : (g : Going) → Spared g × After (NoFewer s) g → After (Ended m) g → g ≡ refused NoPlace
      go (on t) p q =
          absurd
          (let a = p.1 in
          let b = ap length q.empty in
          let c = (takings_few m t.takings t q.sound).1 in
          let d = h.taken in
          let e = ltb-true m.rows (n + length s.waiting) (and_first many _ full) in
          omega arith)
      go (refused why) p q = ap refused p.0
