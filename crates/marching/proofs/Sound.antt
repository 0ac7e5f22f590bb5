-- What every step of the march keeps, and that the march ends: takings and the waiting cells that are stored are at most the rows. Assumes nothing.
use mathlib.Core.Path.{◌≡◌, refl, sym, ap, subst, ◌∙◌}
use mathlib.Core.Bool.{Bool, true, false, cond, ◌||◌}
use mathlib.Core.List.{List, [], ◌∷◌}
use Prim.Native.Nat.{ℕ, zero, suc, ◌+◌, ◌<◌, ◌≤◌, zero-le}
use native.Mathlib.Omega.{arith}
use borrow.Author.Tests.{ltb-true}
use lib.Dec.{ltb, eqb}
use lib.ListN.{length}
use lib.Ieee.{Float, le}
use Rattle.search.specs.Keys.{member, ascending}
use Rattle.lists.specs.Lists.{insert}
use Rattle.marching.specs.March.{MarchedRow, marched_row, Cell, cell, State, state, Field, Rooms, Going, on, refused, and_then, row_before, keys_of, store, cell_before, cells_of, wait, wait_all, sow, sow_all, settled, onward, spread, settle, visit, taking, take_up_to, nothing, march}
use Rattle.lists.proofs.Bools.{cases, or_first, or_second}
use Rattle.marching.proofs.KeysOnce.{Once, insert_member, insert_once, ascending_once, ascending_insert, both, both_none, both_insert, both_other, both_more}
use Rattle.lists.proofs.Inserting.{insert_length}

-- where a step goes on, the state it leaves is P
unfoldable pub After : (State → Type 0) → Going → Type 0
After P (on s) = P s
After P (refused why) = Unit

pub after_then : (P Q : State → Type 0) (g : Going) (f : State → Going) → After P g → ((s : State) → P s → After Q (f s)) → After Q (and_then g f)
unfolding After and_then
after_then P Q (on s) f p h = h s p
after_then P Q (refused why) f p h = tt

pub after_cond : (P : State → Type 0) (b : Bool) (g h : Going) → (b ≡ true → After P g) → (b ≡ false → After P h) → After P (cond b g h)
after_cond P b g h p q = cases (λ (c : Bool). After P (cond c g h)) b p q

pub after_weaken : (P Q : State → Type 0) (g : Going) → ((s : State) → P s → Q s) → After P g → After Q g
unfolding After
after_weaken P Q (on s) h p = h s p
after_weaken P Q (refused why) h p = tt

pub after_on : (P : State → Type 0) (g : Going) (s : State) → After P g → g ≡ on s → P s
unfolding After
after_on P g s p e = subst (After P) e p

-- after n takings: stored keys ascend, no cell waits twice, takings and the waiting cells that are stored are together at most the rows, and all have a place
pub record Sound (m : Rooms) (n : ℕ) (s : State) : Type 0 where
  pub ascends : ascending (keys_of s.stored) ≡ true
  pub once : Once (cells_of s.waiting)
  pub taken : s.takings ≡ n
  pub counted : n + both (cells_of s.waiting) (keys_of s.stored) ≤ length s.stored
  pub rows_fit : length s.stored ≤ m.rows
  pub cells_fit : length s.waiting ≤ m.cells

-- the same, with these rows stored
pub record SoundOn (m : Rooms) (n : ℕ) (rs : List MarchedRow) (s : State) : Type 0 where
  pub sound : Sound m n s
  pub rows : s.stored ≡ rs

module _ (m : Rooms) where
  -- ---- waiting

  wait_sound : (n : ℕ) (rs : List MarchedRow) (e : Float) (k : ℕ) (s : State) → SoundOn m n rs s → After (SoundOn m n rs) (wait m.cells e k s)
  unfolding wait After
  wait_sound n rs e k s h =
      let a = member k (keys_of s.stored) in
      let b = member k (cells_of s.waiting) in
      let o = h.sound in
      after_cond (SoundOn m n rs) (a || b) _ _
      (λ p. h)
      (λ p. after_cond (SoundOn m n rs) (ltb (length s.waiting) m.cells) _ _
      (λ q.
      let u = both_insert cell_before (cell e k) (λ (c : Cell). c.key) s.waiting (keys_of s.stored) (or_first a b p) in
      record {
        sound = record {
          ascends = o.ascends;
          once = insert_once cell_before (cell e k) (λ (c : Cell). c.key) s.waiting (or_second a b p) o.once;
          taken = o.taken;
          counted = rw u o.counted;
          rows_fit = o.rows_fit;
          cells_fit = rw insert_length (ltb-true _ _ q);
        };
        rows = h.rows;
      })
      (λ q. tt))

  pub wait_all-sound :
      (n : ℕ) (rs : List MarchedRow) (e : Float) (ks : List ℕ) (s : State)
      → SoundOn m n rs s
      → After (SoundOn m n rs) (wait_all m.cells e ks s)
  unfolding wait_all After
  wait_all-sound n rs e [] s h = h
  wait_all-sound n rs e (k ∷ ks) s h =
      after_then (SoundOn m n rs) (SoundOn m n rs) (wait m.cells e k s) (wait_all m.cells e ks)
      (wait_sound n rs e k s h) (λ t u. wait_all-sound n rs e ks t u)

  -- ---- storing

  -- a new row, after n takings; with it n and the waiting cells that are stored are at most the rows
  store_sound :
      (n : ℕ) (r : MarchedRow) (s : State)
      → member r.key (keys_of s.stored) ≡ false
      → ascending (keys_of s.stored) ≡ true
      → Once (cells_of s.waiting)
      → s.takings ≡ n
      → n + both (cells_of s.waiting) (keys_of (insert row_before r s.stored)) ≤ suc (length s.stored)
      → length s.waiting ≤ m.cells
      → After (SoundOn m n (insert row_before r s.stored)) (store m.rows r s)
  unfolding store After
  store_sound n r s h a o t c f =
      after_cond (SoundOn m n (insert row_before r s.stored)) (ltb (length s.stored) m.rows) _ _
      (λ q. record {
        sound = record {
          ascends = ascending_insert r s.stored a h;
          once = o;
          taken = t;
          counted = rw insert_length c;
          rows_fit = rw insert_length (ltb-true _ _ q);
          cells_fit = f;
        };
        rows = refl;
      })
      (λ q. tt)

  stored_more : (r : MarchedRow) (rs : List MarchedRow) (w : ℕ) → member w (keys_of (insert row_before r rs)) ≡ eqb r.key w || member w (keys_of rs)
  stored_more r rs w = insert_member row_before r (λ (q : MarchedRow). q.key) w rs

  -- ---- seeds

  -- a seed that is not stored
  pub sow_sound :
      (near : ℕ → List ℕ) (r : MarchedRow) (s : State)
      → Sound m 0 s
      → member r.key (keys_of s.stored) ≡ false
      → After (SoundOn m 0 (insert row_before r s.stored)) (sow near m r s)
  unfolding sow
  sow_sound near r s h n =
      let b = both_more r.key (keys_of s.stored) (keys_of (insert row_before r s.stored)) (stored_more r s.stored) (cells_of s.waiting) h.once in
      after_then (SoundOn m 0 (insert row_before r s.stored)) (SoundOn m 0 (insert row_before r s.stored))
      (store m.rows r s) _
      (store_sound 0 r s n h.ascends h.once h.taken (omega (arith, h.counted)) h.cells_fit)
      (λ t u. wait_all-sound 0 _ _ _ t u)

  -- seeds of which none is stored and none stands twice
  pub sow_all-sound :
      (near : ℕ → List ℕ) (rs : List MarchedRow) (s : State)
      → Sound m 0 s
      → Once (keys_of rs)
      → both (keys_of rs) (keys_of s.stored) ≡ 0
      → After (Sound m 0) (sow_all near m rs s)
  unfolding sow_all After Once both
  sow_all-sound near [] s h o b = h
  sow_all-sound near (r ∷ rs) s h o b =
      let n : member r.key (keys_of s.stored) ≡ false = absent (member r.key (keys_of s.stored)) (both (keys_of rs) (keys_of s.stored)) b in
      let z : both (keys_of rs) (keys_of s.stored) ≡ 0 = omega arith in
      let q = both_other r.key (keys_of s.stored) (keys_of (insert row_before r s.stored)) (stored_more r s.stored) (keys_of rs) o.0 in
      after_then (SoundOn m 0 (insert row_before r s.stored)) (Sound m 0) (sow near m r s) (sow_all near m rs) (sow_sound near r s h n)
      (λ t u. sow_all-sound near rs t u.sound o.1 (rw u.rows (q ∙ z)))
    where
      absent : (c : Bool) (x : ℕ) → cond c 1 0 + x ≡ 0 → c ≡ false
      absent true x e = absurd (omega arith)
      absent false x e = refl

  pub nothing_sound : Sound m 0 nothing
  unfolding Once ascending both
  nothing_sound = record { ascends = refl; once = tt; taken = refl; counted = zero-le; rows_fit = zero-le; cells_fit = zero-le }

  -- ---- takings

  spread_sound : (f : Field) (n : ℕ) (rs : List MarchedRow) (r : MarchedRow) (s : State) → SoundOn m n rs s → After (Sound m n) (spread f m.cells r s)
  unfolding spread After
  spread_sound f n rs r s h =
      let w = wait_all m.cells (onward f r.distance) (f.near r.key) s in
      after_cond (Sound m n) (le (onward f r.distance) f.most) w (on s)
      (λ _. after_weaken (SoundOn m n rs) (Sound m n) w (λ t u. u.sound) (wait_all-sound n rs _ _ s h)) (λ _. h.sound)

  -- one taking more
  pub take_sound :
      (f : Field) (n : ℕ) (c : Cell) (cs : List Cell) (s : State)
      → Sound m n s
      → s.waiting ≡ c ∷ cs
      → After (Sound m (suc n)) (taking f m (c ∷ cs) s)
  unfolding taking visit settle After Once both
  take_sound f n c cs s h e =
      let ks = keys_of s.stored in
      let o : Once (cells_of (c ∷ cs)) = rw e at h.once in
      let b : n + both (cells_of (c ∷ cs)) ks ≤ length s.stored = rw e at h.counted in
      let l : suc (length cs) ≤ m.cells = rw e at h.cells_fit in
      after_cond (Sound m (suc n)) (member c.key ks) _ _
      (λ p. record {
        ascends = h.ascends;
        once = o.1;
        taken = ap suc h.taken;
        counted = let d = rw p at b in omega arith;
        rows_fit = h.rows_fit;
        cells_fit = omega arith;
      })
      (λ p.
      let r = marched_row c.key (settled f s.stored c.key) in
      let d = rw p at b in
      let q = both_other c.key ks (keys_of (insert row_before r s.stored)) (stored_more r s.stored) (cells_of cs) o.0 in
      after_then (SoundOn m (suc n) (insert row_before r s.stored)) (Sound m (suc n)) (store m.rows r _) _
      (store_sound (suc n) r (state s.stored cs (suc s.takings)) p h.ascends o.1 (ap suc h.taken) (omega arith) (omega arith))
      (λ t u. spread_sound f (suc n) (insert row_before r s.stored) r t u))

  -- takings and the waiting cells that are stored are at most the rows, so the takings are, and those that have a place bound them
  pub takings_few : (n : ℕ) (s : State) → Sound m n s → (n ≤ length s.stored) × (n ≤ m.rows)
  takings_few n s h = (omega (arith, h.counted), omega (arith, h.counted, h.rows_fit))

  -- ---- the end

  -- no cell waits any more
  pub record Ended (s : State) : Type 0 where
    pub sound : Sound m s.takings s
    pub empty : s.waiting ≡ []

  -- where no cell waits, nothing is taken
  pub empty_stays : (f : Field) (i : ℕ) (s : State) → s.waiting ≡ [] → take_up_to f m i s ≡ on s
  unfolding take_up_to taking and_then
  empty_stays f zero s e = refl
  empty_stays f (suc i) s e = ap (λ (cs : List Cell). and_then (taking f m cs s) (take_up_to f m i)) e ∙ empty_stays f i s e

  -- more takings than the rows that have a place leave no cell waiting
  pub take_up_to-ends : (f : Field) (i n : ℕ) (s : State) → Sound m n s → m.rows < i + n → After Ended (take_up_to f m i s)
  unfolding take_up_to taking and_then After
  take_up_to-ends f zero n s h l = absurd (let t = takings_few n s h in omega arith)
  take_up_to-ends f (suc i) n s h l = go s.waiting refl (λ t u. take_up_to-ends f i (suc n) t u (omega arith))
    where
      go :
          (cs : List Cell)
          → s.waiting ≡ cs
          → ((t : State) → Sound m (suc n) t → After Ended (take_up_to f m i t))
          → After Ended (and_then (taking f m cs s) (take_up_to f m i))
      go [] e on-from = subst (After Ended) (sym (empty_stays f i s e)) (record { sound = subst (λ (x : ℕ). Sound m x s) (sym h.taken) h; empty = e })
      go (c ∷ cs) e on-from = after_then (Sound m (suc n)) Ended (taking f m (c ∷ cs) s) (take_up_to f m i) (take_sound f n c cs s h e) on-from

  -- the march of seeds that ascend ends with no cell waiting, or is refused
  pub march_ends : (f : Field) (rs : List MarchedRow) → ascending (keys_of rs) ≡ true → After Ended (march f m rs)
  unfolding march both member
  march_ends f rs a =
      after_then (Sound m 0) Ended (sow_all f.near m rs nothing) _
      (sow_all-sound f.near rs nothing nothing_sound (ascending_once (keys_of rs) a) (both_none (keys_of rs)))
      (λ t u. take_up_to-ends f (suc m.rows) 0 t u (omega arith))
