-- The key fact: of the cells that are not stored, exactly those wait that have a stored neighbour that has spread. Assumes nothing.
use Rattle.std.specs.Prelude.{None, Option, Some}
use mathlib.Core.Path.{◌≡◌, refl, sym, ap, ◌∙◌}
use mathlib.Core.Logic.{◌⊎◌, ⊎_elim}
use mathlib.Core.Bool.{Bool, true, false, cond, not, ◌&&◌, ◌||◌, or-true, true≢false, false≢true}
use mathlib.Core.List.Memᴰ
use mathlib.Core.List.{List, [], ◌∷◌, ◌++◌, append-nil}
use Prim.Native.Nat.{ℕ, zero, suc}
use native.Mathlib.Omega.{arith}
use borrow.Author.Tests.{eqb-true, eqb-false, eq-eqb, ne_eqb}
use lib.Dec.{ltb, eqb}
use lib.ListN.{length}
use lib.Ieee.{Float, le}
use Rattle.lists.specs.Lists.{◌∈◌, insert}
use Rattle.lists.proofs.Bools.{cases, or_first, or_second, or_cases, both_ways}
use Rattle.search.specs.Keys.{member, ascending}
use Rattle.marching.specs.March.{MarchedRow, marched_row, Cell, cell, State, state, Field, Rooms, Going, on, refused, and_then, row_before, keys_of, distance_of, is_stored, store, cell_before, waits, wait, wait_all, sow, sow_all, settled, onward, spread, settle, visit, taking, take_up_to, nothing}
use Rattle.marching.specs.Spreading.{has_spread, any_spread, other_spread, Reached, WaitsExactly}
use Rattle.marching.proofs.KeysOnce.{Once, insert_member, ascending_once}
use Rattle.marching.proofs.Sound.{After, after_then, after_cond, after_weaken}

-- ---- tests

or_comm : (a b : Bool) → a || b ≡ b || a
or_comm true true = refl
or_comm true false = refl
or_comm false true = refl
or_comm false false = refl

or_assoc : (a b c : Bool) → (a || b) || c ≡ a || (b || c)
or_assoc true b c = refl
or_assoc false b c = refl

-- ---- two things after a step

pub after_both : (P Q : State → Type 0) (g : Going) → After P g → After Q g → After (λ s. P s × Q s) g
unfolding After
after_both P Q (on s) p q = (p, q)
after_both P Q (refused why) p q = tt

-- ---- keys in a list

pub member_in : (k : ℕ) (ks : List ℕ) → member k ks ≡ true → k ∈ ks
unfolding member
member_in k [] e = absurd (false≢true e)
member_in k (l ∷ ls) e =
    ⊎_elim (λ h. Memᴰ.head (sym (eqb-true l k h))) (λ h. Memᴰ.tail (member_in k ls h)) (or_cases (eqb l k) (member k ls) e)

pub in_member : (k : ℕ) (ks : List ℕ) → k ∈ ks → member k ks ≡ true
unfolding member
in_member k [] m = absurd (Memᴰ.not-nil m)
in_member k (l ∷ ls) m =
    ⊎_elim (λ (e : k ≡ l). rw (eq-eqb l k (sym e))) (λ t. rw (in_member k ls t) (or-true (eqb l k))) (Memᴰ.cases_cons m)

-- ---- what is stored

pub no_distance : (k : ℕ) (rs : List MarchedRow) → is_stored k rs ≡ false → distance_of k rs ≡ None
unfolding distance_of member
no_distance k [] h = refl
no_distance k (r ∷ rs) h =
    rw (or_first (eqb r.key k) (is_stored k rs) h) (no_distance k rs (or_second (eqb r.key k) (is_stored k rs) h))

pub no_stored : (k : ℕ) (rs : List MarchedRow) → distance_of k rs ≡ None → is_stored k rs ≡ false
unfolding distance_of member
no_stored k [] h = refl
no_stored k (r ∷ rs) h =
    cases (λ (b : Bool). cond b (Some r.distance) (distance_of k rs) ≡ None → b || is_stored k rs ≡ false) (eqb r.key k)
    (λ e g. absurd (let z : ◌≡◌ {A = ℕ} 0 1 = cc in omega arith)) (λ e g. no_stored k rs g) h

pub stored_more : (n : ℕ) (r : MarchedRow) (rs : List MarchedRow) → is_stored n (insert row_before r rs) ≡ eqb r.key n || is_stored n rs
stored_more n r rs = insert_member row_before r (λ (x : MarchedRow). x.key) n rs

-- a new row's key has the row's distance, and every other key what it had
pub distance_insert : (n : ℕ) (r : MarchedRow) (rs : List MarchedRow)
    → is_stored r.key rs ≡ false
    → distance_of n (insert row_before r rs) ≡ cond (eqb r.key n) (Some r.distance) (distance_of n rs)
unfolding distance_of insert member
distance_insert n r [] o = refl
distance_insert n r (s ∷ rs) o =
    let before = cond (eqb s.key n) (Some s.distance) (distance_of n rs) in
    let new : eqb s.key r.key ≡ false = or_first (eqb s.key r.key) (member r.key (keys_of rs)) o in
    cases (λ (b : Bool). distance_of n (cond b (s ∷ insert row_before r rs) (r ∷ (s ∷ rs))) ≡ cond (eqb r.key n) (Some r.distance) before)
    (ltb s.key r.key)
    (λ e. rw (distance_insert n r rs (or_second (eqb s.key r.key) (member r.key (keys_of rs)) o))
    (swap (eqb s.key n) (eqb r.key n) (Some s.distance) (Some r.distance) (distance_of n rs)
    (λ p q. eqb-false s.key r.key new (eqb-true s.key n p ∙ sym (eqb-true r.key n q)))))
    (λ e. refl)
  where
    swap : (a b : Bool) (x y z : Option Float) → (a ≡ true → b ≡ true → ⊥) → cond a x (cond b y z) ≡ cond b y (cond a x z)
    swap true true x y z n = absurd (n refl refl)
    swap true false x y z n = refl
    swap false true x y z n = refl
    swap false false x y z n = refl

-- ---- the test over a cell's neighbours, in words

module _ (seed : ℕ → Bool) (f : Field) (rs : List MarchedRow) where
  spread_of : (l : ℕ) (o : Option Float) → has_spread seed f l o ≡ true → (d : Float) × ((o ≡ Some d) × ((seed l ≡ true) ⊎ (le (onward f d) f.most ≡ true)))
  unfolding has_spread
  spread_of l None e = absurd (false≢true e)
  spread_of l (Some d) e = (d, (refl, or_cases (seed l) (le (onward f d) f.most) e))

  of_spread : (l : ℕ) (d : Float) → (seed l ≡ true) ⊎ (le (onward f d) f.most ≡ true) → has_spread seed f l (Some d) ≡ true
  unfolding has_spread
  of_spread l d h = ⊎_elim (λ e. rw e) (λ e. rw e (or-true (seed l))) h

  any_of : (ls : List ℕ) → any_spread seed f rs ls ≡ true → (l : ℕ) × ((l ∈ ls) × (has_spread seed f l (distance_of l rs) ≡ true))
  unfolding any_spread
  any_of [] e = absurd (false≢true e)
  any_of (l ∷ ls) e =
      ⊎_elim (λ h. (l, (Memᴰ.head refl, h))) (λ h. let t = any_of ls h in (t.0, (Memᴰ.tail t.1.0, t.1.1)))
      (or_cases (has_spread seed f l (distance_of l rs)) (any_spread seed f rs ls) e)

  of_any : (l : ℕ) (ls : List ℕ) → l ∈ ls → has_spread seed f l (distance_of l rs) ≡ true → any_spread seed f rs ls ≡ true
  unfolding any_spread
  of_any l [] m e = absurd (Memᴰ.not-nil m)
  of_any l (k ∷ ls) m e =
      ⊎_elim (λ (q : l ≡ k). rw (← q, e)) (λ t. rw (of_any l ls t e) (or-true (has_spread seed f k (distance_of k rs)))) (Memᴰ.cases_cons m)

  -- the test passes where the cell has such a neighbour, and only there
  pub reached_of : (n : ℕ) → any_spread seed f rs (f.near n) ≡ true → Reached seed f rs n
  reached_of n e =
      let a = any_of (f.near n) e in
      let b = spread_of a.0 (distance_of a.0 rs) a.1.1 in
      record { from = a.0; at = b.0; beside = a.1.0; stored = b.1.0; spread = b.1.1 }

  pub of_reached : (n : ℕ) → Reached seed f rs n → any_spread seed f rs (f.near n) ≡ true
  of_reached n h = of_any h.from (f.near n) h.beside (rw h.stored (of_spread h.from h.at h.spread))

-- ---- one row more

module _ (seed : ℕ → Bool) (f : Field) (r : MarchedRow) (rs : List MarchedRow) (new : is_stored r.key rs ≡ false) where
  -- a cell that is not stored has not spread
  quiet : (l : ℕ) → is_stored l rs ≡ false → has_spread seed f l (distance_of l rs) ≡ false
  unfolding has_spread
  quiet l o = rw (no_distance l rs o)

  -- the new row adds its own neighbours, if it has spread
  pub any_insert : (ls : List ℕ)
      → any_spread seed f (insert row_before r rs) ls ≡ any_spread seed f rs ls || (has_spread seed f r.key (Some r.distance) && member r.key ls)
  unfolding any_spread member
  any_insert [] = cases (λ (b : Bool). false ≡ b && false) (has_spread seed f r.key (Some r.distance)) (λ e. refl) (λ e. refl)
  any_insert (l ∷ ls) =
      let own = has_spread seed f r.key (Some r.distance) in
      let any = any_spread seed f rs ls in
      rw (distance_insert l r rs new, any_insert ls)
      (cases (λ (b : Bool).
      eqb r.key l ≡ b
      → has_spread seed f l (cond b (Some r.distance) (distance_of l rs)) || (any || (own && member r.key ls))
      ≡ (has_spread seed f l (distance_of l rs) || any) || (own && (eqb l r.key || member r.key ls))) (eqb r.key l)
      (λ _ e.
      let q : r.key ≡ l = eqb-true r.key l e in
      rw (← q, quiet r.key new, eq-eqb r.key r.key refl) (here own any (member r.key ls)))
      (λ _ e. rw (ne_eqb l r.key (λ q. eqb-false r.key l e (sym q))) (sym (or_assoc (has_spread seed f l (distance_of l rs)) (any_spread seed f rs ls) _)))
      refl)
    where
      here : (h a m : Bool) → h || (a || (h && m)) ≡ (false || a) || (h && (true || m))
      here true a m = sym (or-true a)
      here false a m = refl

  -- leaving the new row out is looking at the rows before it
  pub other_insert : (ls : List ℕ) → other_spread seed f r.key (insert row_before r rs) ls ≡ any_spread seed f rs ls
  unfolding any_spread other_spread
  other_insert [] = refl
  other_insert (l ∷ ls) =
      rw (distance_insert l r rs new, other_insert ls)
      (cases (λ (b : Bool).
      eqb r.key l ≡ b
      → (not (eqb l r.key) && has_spread seed f l (cond b (Some r.distance) (distance_of l rs))) || any_spread seed f rs ls
      ≡ has_spread seed f l (distance_of l rs) || any_spread seed f rs ls) (eqb r.key l)
      (λ _ e. let q : r.key ≡ l = eqb-true r.key l e in rw (← q, quiet r.key new, eq-eqb r.key r.key refl))
      (λ _ e. rw (ne_eqb l r.key (λ q. eqb-false r.key l e (sym q))))
      refl)

-- ---- waiting

-- t is s after these cells were made to wait
pub record Waited (ks : List ℕ) (s t : State) : Type 0 where
  pub rows : t.stored ≡ s.stored
  pub cells : (n : ℕ) → is_stored n s.stored ≡ false → waits n t.waiting ≡ waits n s.waiting || member n ks

module _ (room : ℕ) (e : Float) where
  pub wait_waited : (k : ℕ) (s : State) → After (Waited (k ∷ []) s) (wait room e k s)
  unfolding wait After member
  wait_waited k s =
      after_cond (Waited (k ∷ []) s) (is_stored k s.stored || waits k s.waiting) _ _
      (λ h. record {
        rows = refl;
        cells = λ n o.
            cases (λ (b : Bool). eqb k n ≡ b → waits n s.waiting ≡ waits n s.waiting || (b || false)) (eqb k n)
            (λ _ q.
            let i : k ≡ n = eqb-true k n q in
            let w : waits n s.waiting ≡ true =
            ⊎_elim (λ a. absurd (true≢false (sym a ∙ ap (λ (x : ℕ). is_stored x s.stored) i ∙ o)))
            (λ a. ap (λ (x : ℕ). waits x s.waiting) (sym i) ∙ a) (or_cases (is_stored k s.stored) (waits k s.waiting) h) in
            rw w)
            (λ _ q. or_comm false (waits n s.waiting)) refl;
      })
      (λ h. after_cond (Waited (k ∷ []) s) (ltb (length s.waiting) room) _ _
      (λ g. record {
        rows = refl;
        cells = λ n o. insert_member cell_before (cell e k) (λ (c : Cell). c.key) n s.waiting ∙ more (eqb k n) (waits n s.waiting);
      })
      (λ g. tt))
    where
      more : (a b : Bool) → a || b ≡ b || (a || false)
      more true b = sym (or-true b)
      more false b = or_comm false b

  -- those cells wait too, and no others
  pub wait_all-waited : (ks : List ℕ) (s : State) → After (Waited ks s) (wait_all room e ks s)
  unfolding wait_all After member
  wait_all-waited [] s = record { rows = refl; cells = λ n o. or_comm false (waits n s.waiting) }
  wait_all-waited (k ∷ ks) s =
      after_then (Waited (k ∷ []) s) (Waited (k ∷ ks) s) (wait room e k s) _ (wait_waited k s)
      (λ t u. after_weaken (Waited ks t) (Waited (k ∷ ks) s) (wait_all room e ks t)
      (λ v w. record {
        rows = w.rows ∙ u.rows;
        cells = λ n o.
            w.cells n (ap (is_stored n) u.rows ∙ o) ∙ ap (λ (b : Bool). b || member n ks) (u.cells n o)
            ∙ step (waits n s.waiting) (eqb k n) (member n ks);
      })
      (wait_all-waited ks t))
    where
      step : (a b c : Bool) → (a || (b || false)) || c ≡ a || (b || c)
      step true b c = refl
      step false true c = refl
      step false false c = refl

-- ---- storing

pub store_is : (room : ℕ) (r : MarchedRow) (s : State) → After (λ t. t ≡ state (insert row_before r s.stored) s.waiting s.takings) (store room r s)
unfolding store After
store_is room r s =
    after_cond (λ t. t ≡ state (insert row_before r s.stored) s.waiting s.takings) (ltb (length s.stored) room) _ _ (λ _. refl) (λ _. tt)

-- ---- what holds between steps

module _ (f : Field) (seed : ℕ → Bool) where
  -- while seeds are sown, with rs still to be sown: the stored cells and those to be sown are the seeds
  pub record Sowing (rs : List MarchedRow) (s : State) : Type 0 where
    pub exact : WaitsExactly seed f s
    pub all : (k : ℕ) → is_stored k s.stored || member k (keys_of rs) ≡ seed k
    pub once : Once (keys_of rs)
    pub apart : (k : ℕ) → member k (keys_of rs) ≡ true → is_stored k s.stored ≡ false

  -- while cells are taken: every seed is stored
  pub record Known (s : State) : Type 0 where
    pub exact : WaitsExactly seed f s
    pub sown : (k : ℕ) → seed k ≡ true → is_stored k s.stored ≡ true

  -- a seed has spread
  seed_spread : (k : ℕ) (d : Float) → seed k ≡ true → has_spread seed f k (Some d) ≡ true
  unfolding has_spread
  seed_spread k d e = rw e

  -- all are sown
  pub sown_known : (s : State) → Sowing [] s → Known s
  unfolding member
  sown_known s h = record { exact = h.exact; sown = λ k e. or_comm false (is_stored k s.stored) ∙ h.all k ∙ e }

  pub no_seed : (k : ℕ) (s : State) → Known s → is_stored k s.stored ≡ false → seed k ≡ false
  no_seed k s h o = cases (λ (b : Bool). seed k ≡ b → b ≡ false) (seed k) (λ _ e. absurd (true≢false (sym (h.sown k e) ∙ o))) (λ _ e. refl) refl

  -- what a row that is no seed adds
  adds : (r : MarchedRow)
      → seed r.key ≡ false
      → (n : ℕ)
      → member n (cond (le (onward f r.distance) f.most) (f.near r.key) [])
      ≡ has_spread seed f r.key (Some r.distance) && member n (f.near r.key)
  unfolding has_spread member
  adds r e n =
      rw e
      (cases (λ (b : Bool). member n (cond b (f.near r.key) []) ≡ b && member n (f.near r.key)) (le (onward f r.distance) f.most)
      (λ _. refl) (λ _. refl))

  -- before the first seed
  pub nothing_sowing : (rs : List MarchedRow) → ascending (keys_of rs) ≡ true → ((k : ℕ) → member k (keys_of rs) ≡ seed k) → Sowing rs nothing
  unfolding member any_spread has_spread distance_of
  nothing_sowing rs ascends seeds_are =
      record {
        exact = λ n o. sym (empty (f.near n));
        all = λ k. seeds_are k;
        once = ascending_once (keys_of rs) ascends;
        apart = λ k e. refl;
      }
    where
      empty : (ls : List ℕ) → any_spread seed f [] ls ≡ false
      empty [] = refl
      empty (l ∷ ls) = empty ls

-- ---- what a taking leaves

module _ (f : Field) (m : Rooms) where
  -- a row that is no seed has spread where its onward estimate is at most the maximum distance
  pub spread_waited : (r : MarchedRow) (t : State)
      → After (Waited (cond (le (onward f r.distance) f.most) (f.near r.key) []) t) (spread f m.cells r t)
  unfolding spread After member
  spread_waited r t =
      let spread_on = wait_all m.cells (onward f r.distance) (f.near r.key) t in
      cases (λ (b : Bool). After (Waited (cond b (f.near r.key) []) t) (cond b spread_on (on t))) (le (onward f r.distance) f.most)
      (λ _. wait_all-waited m.cells (onward f r.distance) (f.near r.key) t)
      (λ _. record { rows = refl; cells = λ n o. or_comm false (waits n t.waiting) })

  -- the rows that a taking leaves
  pub taking_rows : (c : Cell) (cs : List Cell) (s : State)
      → After (λ t. t.stored ≡ cond (is_stored c.key s.stored) s.stored
      (insert row_before (marched_row c.key (settled f s.stored c.key)) s.stored)) (taking f m (c ∷ cs) s)
  unfolding taking visit settle After
  taking_rows c cs s =
      let r = marched_row c.key (settled f s.stored c.key) in
      let s' = state s.stored cs (suc s.takings) in
      let left = cond (is_stored c.key s.stored) s.stored (insert row_before r s.stored) in
      after_cond (λ t. t.stored ≡ left) (is_stored c.key s.stored) _ _
      (λ p. rw p)
      (λ p. after_then (λ t. t ≡ state (insert row_before r s.stored) cs (suc s.takings)) (λ t. t.stored ≡ left) (store m.rows r s')
      (spread f m.cells r) (store_is m.rows r s')
      (λ t g. after_weaken _ (λ t. t.stored ≡ left) (spread f m.cells r t) (λ u w. w.rows ∙ ap (λ (x : State). x.stored) g ∙ rw p)
      (spread_waited r t)))

-- ---- the steps

module _ (f : Field) (m : Rooms) (back : (k l : ℕ) → l ∈ f.near k → k ∈ f.near l) (seed : ℕ → Bool) where
  -- neighbours are so of each other
  beside : (k n : ℕ) → member k (f.near n) ≡ member n (f.near k)
  beside k n =
      both_ways (member k (f.near n)) (member n (f.near k)) (λ e. in_member n (f.near k) (back n k (member_in k (f.near n) e)))
      (λ e. in_member k (f.near n) (back k n (member_in n (f.near k) e)))

  -- one row more, of a cell that is not stored; its neighbours wait if it has spread
  grown : (r : MarchedRow) (s t u : State) (ks : List ℕ)
      → is_stored r.key s.stored ≡ false
      → t.stored ≡ insert row_before r s.stored
      → ((n : ℕ) → is_stored n t.stored ≡ false → waits n t.waiting ≡ any_spread seed f s.stored (f.near n))
      → ((n : ℕ) → member n ks ≡ has_spread seed f r.key (Some r.distance) && member n (f.near r.key))
      → Waited ks t u
      → WaitsExactly seed f u
  grown r s t u ks new e h is w n o =
      let p : is_stored n t.stored ≡ false = ap (is_stored n) (sym w.rows) ∙ o in
      let q : u.stored ≡ insert row_before r s.stored = w.rows ∙ e in
      w.cells n p
      ∙ rw (h n p, is n, q, any_insert seed f r s.stored new (f.near n), beside r.key n)

  -- ---- seeds

  pub sow_exact : (r : MarchedRow) (s : State)
      → is_stored r.key s.stored ≡ false
      → seed r.key ≡ true
      → WaitsExactly seed f s
      → After (λ t. (t.stored ≡ insert row_before r s.stored) × WaitsExactly seed f t) (sow f.near m r s)
  unfolding sow
  sow_exact r s new sd h =
      let stored = insert row_before r s.stored in
      after_then (λ t. t ≡ state stored s.waiting s.takings) (λ t. (t.stored ≡ stored) × WaitsExactly seed f t) (store m.rows r s) _
      (store_is m.rows r s)
      (λ t e. after_weaken (Waited (f.near r.key) t) (λ u. (u.stored ≡ stored) × WaitsExactly seed f u) (wait_all m.cells _ (f.near r.key) t)
      (λ u w.
      let st : t.stored ≡ insert row_before r s.stored = ap (λ (x : State). x.stored) e in (
        w.rows ∙ st,
        grown r s t u (f.near r.key) new st
            (λ n o.
            let z : eqb r.key n || is_stored n s.stored ≡ false = sym (stored_more n r s.stored) ∙ ap (is_stored n) (sym st) ∙ o in
            ap (λ (x : State). waits n x.waiting) e ∙ h n (or_second (eqb r.key n) (is_stored n s.stored) z))
            (λ n. rw (seed_spread f seed r.key r.distance sd)) w,
      ))
      (wait_all-waited m.cells _ (f.near r.key) t))

  -- one seed more
  pub sow_sowing : (r : MarchedRow) (rs : List MarchedRow) (s : State) → Sowing f seed (r ∷ rs) s → After (Sowing f seed rs) (sow f.near m r s)
  unfolding Once member
  sow_sowing r rs s h =
      let self : eqb r.key r.key ≡ true = eq-eqb r.key r.key refl in
      let o : Once (keys_of (r ∷ rs)) = h.once in
      after_weaken (λ t. (t.stored ≡ insert row_before r s.stored) × WaitsExactly seed f t) (Sowing f seed rs) (sow f.near m r s)
      (λ t u. record {
        exact = u.1;
        all = λ k.
            ap (λ (l : List MarchedRow). is_stored k l || member k (keys_of rs)) u.0
            ∙ rw (stored_more k r s.stored) (turn (eqb r.key k) (is_stored k s.stored) (member k (keys_of rs)) ∙ h.all k);
        once = o.1;
        apart = λ k e.
            let other : eqb r.key k ≡ false = ne_eqb r.key k (λ q. true≢false (sym e ∙ ap (λ (x : ℕ). member x (keys_of rs)) (sym q) ∙ o.0)) in
            ap (is_stored k) u.0 ∙ stored_more k r s.stored ∙ rw (other, h.apart k (rw e (or-true (eqb r.key k))));
      })
      (sow_exact r s (h.apart r.key (rw self)) (sym (h.all r.key) ∙ rw self (or-true (is_stored r.key s.stored))) h.exact)
    where
      turn : (a b c : Bool) → (a || b) || c ≡ b || (a || c)
      turn true true c = refl
      turn true false c = refl
      turn false true c = refl
      turn false false c = refl

  -- some seeds more
  pub sow_all-sowing : (rs qs : List MarchedRow) (s : State) → Sowing f seed (rs ++ qs) s → After (Sowing f seed qs) (sow_all f.near m rs s)
  unfolding sow_all After
  sow_all-sowing [] qs s h = h
  sow_all-sowing (r ∷ rs) qs s h =
      after_then (Sowing f seed (rs ++ qs)) (Sowing f seed qs) (sow f.near m r s) _ (sow_sowing r (rs ++ qs) s h) (sow_all-sowing rs qs)

  -- ---- takings

  pub taking_known : (cs : List Cell) (s : State) → s.waiting ≡ cs → Known f seed s → After (Known f seed) (taking f m cs s)
  unfolding taking visit settle After member
  taking_known [] s e h = h
  taking_known (c ∷ cs) s e h =
      let r = marched_row c.key (settled f s.stored c.key) in
      let s' = state s.stored cs (suc s.takings) in
      after_cond (Known f seed) (is_stored c.key s.stored) _ _
      (λ p. record {
        exact = λ n o. others n (λ q. true≢false (sym p ∙ ap (λ (x : ℕ). is_stored x s.stored) q ∙ o)) ∙ h.exact n o;
        sown = h.sown;
      })
      (λ p.
      after_then (λ t. t ≡ state (insert row_before r s.stored) cs (suc s.takings)) (Known f seed) (store m.rows r s')
      (spread f m.cells r) (store_is m.rows r s')
      (λ t g. after_weaken (Waited (cond (le (onward f r.distance) f.most) (f.near r.key) []) t) (Known f seed) (spread f m.cells r t)
      (λ u w.
      let st : t.stored ≡ insert row_before r s.stored = ap (λ (x : State). x.stored) g in
      record {
        exact = grown r s t u _ p st
            (λ n o.
            let z : eqb c.key n || is_stored n s.stored ≡ false = sym (stored_more n r s.stored) ∙ ap (is_stored n) (sym st) ∙ o in
            ap (λ (x : State). waits n x.waiting) g
            ∙ others n (eqb-false c.key n (or_first (eqb c.key n) (is_stored n s.stored) z))
            ∙ h.exact n (or_second (eqb c.key n) (is_stored n s.stored) z))
            (adds f seed r (no_seed f seed c.key s h p)) w;
        sown = λ k i. ap (is_stored k) (w.rows ∙ st) ∙ stored_more k r s.stored ∙ rw (h.sown k i) (or-true (eqb c.key k));
      })
      (spread_waited f m r t)))
    where
      -- taking the first leaves the others waiting
      others : (n : ℕ) → (c.key ≡ n → ⊥) → waits n cs ≡ waits n s.waiting
      others n q = sym (ap (waits n) e ∙ rw (ne_eqb c.key n q))

  pub take_up_to-known : (n : ℕ) (s : State) → Known f seed s → After (Known f seed) (take_up_to f m n s)
  unfolding take_up_to After
  take_up_to-known zero s h = h
  take_up_to-known (suc n) s h = after_then (Known f seed) (Known f seed) (taking f m s.waiting s) _ (taking_known s.waiting s refl h) (take_up_to-known n)

  -- ---- the march

  module _ (rs : List MarchedRow) (ascends : ascending (keys_of rs) ≡ true) (seeds_are : (k : ℕ) → member k (keys_of rs) ≡ seed k) where
    -- after all seeds
    pub all_sown : After (Known f seed) (sow_all f.near m rs nothing)
    all_sown =
        after_weaken (Sowing f seed []) (Known f seed) (sow_all f.near m rs nothing) (sown_known f seed)
        (sow_all-sowing rs [] nothing (rw append-nil (nothing_sowing f seed rs ascends seeds_are)))

    -- after all seeds and any number of takings
    pub march_known : (n : ℕ) → After (Known f seed) (and_then (sow_all f.near m rs nothing) (take_up_to f m n))
    march_known n =
        after_then (Known f seed) (Known f seed) (sow_all f.near m rs nothing) (take_up_to f m n) all_sown (take_up_to-known n)

    -- while the first seeds, ps, are sown and the others, qs, are not
    pub sowing_known : (ps qs : List MarchedRow) → ps ++ qs ≡ rs → After (Sowing f seed qs) (sow_all f.near m ps nothing)
    sowing_known ps qs e = sow_all-sowing ps qs nothing (rw e (nothing_sowing f seed rs ascends seeds_are))

-- in words, of a cell that is not stored: where it waits a neighbour has spread, and where one has it waits
pub waits_reached : (f : Field) (seed : ℕ → Bool) (s : State)
    → WaitsExactly seed f s
    → (n : ℕ)
    → is_stored n s.stored ≡ false
    → waits n s.waiting ≡ true
    → Reached seed f s.stored n
waits_reached f seed s h n o w = reached_of seed f s.stored n (sym (h n o) ∙ w)

pub reached_waits : (f : Field) (seed : ℕ → Bool) (s : State)
    → WaitsExactly seed f s
    → (n : ℕ)
    → is_stored n s.stored ≡ false
    → Reached seed f s.stored n
    → waits n s.waiting ≡ true
reached_waits f seed s h n o r = h n o ∙ of_reached seed f s.stored n r
