-- Marks hold a state: what one more mark, or another one, changes. Assumes nothing.
use Rattle.std.specs.Prelude.{Ok, Err, Result, None, Option, Some}
use mathlib.Core.Path.{◌≡◌, refl, sym, ap, subst, ◌∙◌}
use mathlib.Core.Bool.{Bool, true, false, cond, ◌||◌, or-true, true≢false}
use mathlib.Core.List.{List, [], ◌∷◌}
use Prim.Native.Nat.{ℕ, ◌+◌, ◌<◌, ◌≤◌}
use native.Mathlib.Omega.{arith}
use borrow.Author.Tests.{eqb-true, eqb-false, lt-ltb, le-ltb, eq-eqb}
use lib.Dec.{eqb}
use lib.ListN.{length, set, length-set, length-map}
use lib.Ieee.{Float, eq}
use Rattle.floats.specs.Floats.{is_finite}
use Rattle.heap.specs.Heap.{Heaped}
use Rattle.ids.specs.Key.{on_lattice}
use Rattle.lists.specs.Lists.{insert}
use Rattle.lists.proofs.Bools.{cases}
use Rattle.lists.proofs.Inserting.{insert_length}
use Rattle.marks.specs.Marks.{label, spot_of, look, Kept, Entered, Enters}
use Rattle.marks.proofs.Keeping.{label_own, value_at_lem, value_absent, look_set, look_set_other}
use Rattle.search.specs.Keys.{member}
use Rattle.marching.specs.March.{MarchedRow, marched_row, Cell, cell, State, state, Field, Going, on, row_before, cell_before, keys_of, cells_of, distance_of, is_stored, waits, store, wait}
use Rattle.marching.specs.Spreading.{other_spread, Told}
use Rattle.marching.proofs.KeysOnce.{insert_member, ascending_insert}
use Rattle.marching.proofs.Spreading.{no_distance, no_stored, distance_insert}
use Rattle.hearing.specs.Hearing.{waiting_mark, or_waits, mark_of, Marked}
use Rattle.hearing.proofs.Fitting.{marks_fit}
use Rattle.hearing.proofs.Saying.{unmarked}
use Rattle.hearing.proofs.Walking.{real_key}
use Rattle.refusals.specs.declared.Refusal.TheVariants.{NoPlace, NoWaitingPlace}
use Rattle.fronts.specs.Fronts.{marking, Front, LeftRows, LeftCells, DoesWait}
use Rattle.refusals.specs.declared.Refusal.{Refusal}

-- ---- stored cells

pub stored_some : (k : ℕ) (rs : List MarchedRow) (d : Float) → distance_of k rs ≡ Some d → is_stored k rs ≡ true
stored_some k rs d e =
    cases (λ (b : Bool). is_stored k rs ≡ b → b ≡ true) (is_stored k rs) (λ _ _. refl)
    (λ _ q. absurd (let o = no_distance k rs q in let z : ◌≡◌ {A = ℕ} 0 1 = cc in omega arith)) refl

pub stored_here : (k : ℕ) (rs : List MarchedRow) → is_stored k rs ≡ true → (d : Float) × (distance_of k rs ≡ Some d)
stored_here k rs e = go (distance_of k rs) refl
  where
    go : (o : Option Float) → distance_of k rs ≡ o → (d : Float) × (o ≡ Some d)
    go None q = absurd (true≢false (sym e ∙ no_stored k rs q))
    go (Some d) q = (d, refl)

-- ---- one mark more, or another

module _ (rs : List MarchedRow) (ws : List ℕ) (ks : List ℕ) (ds : List Float) (h : Marked rs ws ks ds) (k : ℕ) (real : k ≡ 1 → ⊥)
    (v : Float) (ks' : List ℕ) (ds' : List Float) (kept : Kept ks') (long : length ds' ≡ length ks')
    (new : look k ks' ds' ≡ Some v) (others : (j : ℕ) → (label j ≡ label k → ⊥) → look j ks' ds' ≡ look j ks ds) where
  -- another key has the mark that it had
  other : (j : ℕ) → (j ≡ 1 → ⊥) → eqb k j ≡ false → look j ks' ds' ≡ look j ks ds
  other j n e = others j (λ q. eqb-false k j e (sym (label_own j k n real q)))

  -- k is stored
  marked_row :
      (vs : List ℕ)
      → ((j : ℕ) → (k ≡ j → ⊥) → member j ws ≡ member j vs)
      → member k (keys_of rs) ≡ false
      → is_finite v ≡ true
      → Marked (insert row_before (marched_row k v) rs) vs ks' ds'
  unfolding or_waits
  marked_row vs same o f =
      let r = marched_row k v in
      record {
        marks =
            λ j n.
            cases (λ (b : Bool).
            eqb k j ≡ b
            → look j ks' ds' ≡ or_waits (cond b (Some v) (distance_of j rs)) (member j vs)
            → look j ks' ds' ≡ mark_of (insert row_before r rs) vs j) (eqb k j)
            (λ _ e q. q ∙ rw (distance_insert j r rs o, e))
            (λ _ e q. q ∙ rw (distance_insert j r rs o, e)) refl
            (cases (λ (b : Bool). eqb k j ≡ b → look j ks' ds' ≡ or_waits (cond b (Some v) (distance_of j rs)) (member j vs)) (eqb k j)
            (λ _ e. rw (← (eqb-true k j e)) new)
            (λ _ e. other j n e ∙ h.marks j n ∙ rw (same j (eqb-false k j e))) refl);
        kept = kept;
        long = long;
        finite =
            λ j d e.
            cases (λ (b : Bool). cond b (Some v) (distance_of j rs) ≡ Some d → is_finite d ≡ true) (eqb k j)
            (λ _ q. let x : v ≡ d = cc in rw x at f) (λ _ q. h.finite j d q) (sym (distance_insert j r rs o) ∙ e);
        ascends = ascending_insert r rs h.ascends o;
      }

  -- k waits
  marked_wait : (vs : List ℕ) → ((j : ℕ) → member j vs ≡ eqb k j || member j ws) → distance_of k rs ≡ None → v ≡ waiting_mark → Marked rs vs ks' ds'
  unfolding or_waits
  marked_wait vs more o f =
      record {
        marks = λ j n. cases (λ (b : Bool). eqb k j ≡ b → look j ks' ds' ≡ or_waits (distance_of j rs) (b || member j ws)) (eqb k j)
            (λ _ e. let q = eqb-true k j e in rw (← q, o) (new ∙ ap Some f))
            (λ _ e. other j n e ∙ h.marks j n) refl
            ∙ rw (more j);
        kept = kept;
        long = long;
        finite = h.finite;
        ascends = h.ascends;
      }

-- a stored cell's waiting changes no mark
pub marked_skip :
    (k : ℕ) (rs : List MarchedRow) (ws : List ℕ) (ks : List ℕ) (ds : List Float) (d : Float)
    → distance_of k rs ≡ Some d
    → Marked rs (k ∷ ws) ks ds
    → Marked rs ws ks ds
unfolding or_waits member
marked_skip k rs ws ks ds d e h =
    record {
      marks =
          λ j n.
          h.marks j n
          ∙ cases (λ (b : Bool).
          eqb k j ≡ b → or_waits (distance_of j rs) (b || member j ws) ≡ or_waits (distance_of j rs) (member j ws))
          (eqb k j)
          (λ _ q. let x = eqb-true k j q in rw (← x, e)) (λ _ q. refl) refl;
      kept = h.kept;
      long = h.long;
      finite = h.finite;
      ascends = h.ascends;
    }

-- ---- waiting

-- a waiting cell more is on the lattice
lattice_more : (e : Float) (k : ℕ) (cs : List Cell) → on_lattice k ≡ true
    → ((j : ℕ) → member j (cells_of cs) ≡ true → on_lattice j ≡ true)
    → (j : ℕ)
    → member j (cells_of (insert cell_before (cell e k) cs)) ≡ true
    → on_lattice j ≡ true
lattice_more e k cs own h j m =
    cases (λ (b : Bool). eqb k j ≡ b → b || member j (cells_of cs) ≡ true → on_lattice j ≡ true) (eqb k j)
    (λ _ q _. rw (eqb-true k j q) at own)
    (λ _ q n. h j n) refl
    (sym (insert_member cell_before (cell e k) (λ (c : Cell). c.key) j cs) ∙ m)

module _ (lean : Bool) (e : Float) (k : ℕ) (s : State) (w : ℕ) (ks : List ℕ) (ds es : List Float) (cs : List ℕ) (h : Front lean s ks ds w es cs) where
  -- a cell that is stored or waits changes nothing
  wait_skips : is_stored k s.stored || waits k s.waiting ≡ true → LeftCells lean (wait (length cs) e k s) s (Ok w) ks ds es cs
  unfolding wait LeftCells
  wait_skips q = (s, (rw q, (refl, h)))

  module _ (p : is_stored k s.stored ≡ false) (q : waits k s.waiting ≡ false) where
    -- no place is left
    wait_refused : length cs ≤ w → LeftCells lean (wait (length cs) e k s) s (Err NoWaitingPlace) ks ds es cs
    unfolding wait LeftCells
    wait_refused l = rw (p, q, le-ltb (length s.waiting) (length cs) (let c = h.heap.counted in omega arith))

    -- it gets a place
    wait_goes : w < length cs → wait (length cs) e k s ≡ on (state s.stored (insert cell_before (cell e k) s.waiting) s.takings)
    unfolding wait
    wait_goes l = rw (p, q, lt-ltb (length s.waiting) (length cs) (let c = h.heap.counted in omega arith))

-- a cell with a mark is stored or waits
pub wait_marked : (lean : Bool) (e : Float) (k : ℕ) (real : k ≡ 1 → ⊥) (s : State) (w : ℕ) (ks : List ℕ) (ds es : List Float) (cs : List ℕ)
    → Front lean s ks ds w es cs
    → (i : ℕ)
    → spot_of k ks ≡ Ok i
    → LeftCells lean (wait (length cs) e k s) s (Ok w) ks ds es cs
unfolding or_waits marking member
wait_marked lean e k real s w ks ds es cs h i a =
    wait_skips lean e k s w ks ds es cs h (known (distance_of k s.stored) refl (sym (value_at_lem (label k) ks ds i a) ∙ h.marked.marks k real))
  where
    bit : (l b : Bool) {x : Float} → Some x ≡ or_waits None (member k (marking l s.waiting)) → waits k s.waiting ≡ b → b ≡ true
    bit true b p q = absurd (let z : ◌≡◌ {A = ℕ} 0 1 = cc in omega arith)
    bit false true p q = refl
    bit false false p q = absurd (let r = p ∙ ap (or_waits None) q in let z : ◌≡◌ {A = ℕ} 0 1 = cc in omega arith)

    known : (o : Option Float) {x : Float} → distance_of k s.stored ≡ o → Some x ≡ or_waits (distance_of k s.stored) (member k (marking lean s.waiting))
        → is_stored k s.stored || waits k s.waiting ≡ true
    known (Some d) q p = rw (stored_some k s.stored d q)
    known None q p = rw (bit lean (waits k s.waiting) (p ∙ rw q) refl) (or-true (is_stored k s.stored))

-- ---- in a march with marks of waiting cells

module _ (e : Float) (k : ℕ) (on-lattice : on_lattice k ≡ true) (s : State) (w : ℕ) (ks : List ℕ) (ds es : List Float) (cs : List ℕ)
    (h : Front false s ks ds w es cs) (p : ℕ) (a : spot_of k ks ≡ Err p) where
  bare : (is_stored k s.stored ≡ false) × (waits k s.waiting ≡ false)
  unfolding marking
  bare =
      let u = unmarked s.stored (cells_of s.waiting) ks ds h.marked k (real_key k on-lattice) (value_absent (label k) ks ds p a) in
      (no_stored k s.stored u.0, u.1)

  pub mark_full : length cs ≤ w → LeftCells false (wait (length cs) e k s) s (Err NoWaitingPlace) ks ds es cs
  mark_full l = wait_refused false e k s w ks ds es cs h bare.0 bare.1 l

  -- it gets a mark and a place
  pub mark_placed :
      (ks' : List ℕ) (ds' : List Float)
      → Entered k waiting_mark ks ds ks' ds'
      → w < length cs
      → eq e e ≡ true
      → (es' : List Float) (cs' : List ℕ)
      → ((l : List Cell) → Heaped l w es cs → eq e e ≡ true → waits k l ≡ false → Heaped (insert cell_before (cell e k) l) (w + 1) es' cs')
      → LeftCells false (wait (length cs) e k s) s (Ok (w + 1)) ks' ds' es' cs'
  unfolding LeftCells marking
  mark_placed ks' ds' did l o es' cs' pushed =
      let m = h.marked in (
        state s.stored (insert cell_before (cell e k) s.waiting) s.takings,
        (
          wait_goes false e k s w ks ds es cs h bare.0 bare.1 l,
          (
            refl,
            record {
              marked = marked_wait s.stored (cells_of s.waiting) ks ds m k (real_key k on-lattice) waiting_mark ks' ds'
                  did.kept (did.values ∙ sym did.places) did.value did.others
                  (cells_of (insert cell_before (cell e k) s.waiting))
                  (λ j. insert_member cell_before (cell e k) (λ (c : Cell). c.key) j s.waiting) (no_distance k s.stored bare.0) refl;
              heap = pushed s.waiting h.heap o bare.1;
              lattice = lattice_more e k s.waiting on-lattice h.lattice;
            },
          ),
        ),
      )

-- ---- in a lean march

module _ (seed : ℕ → Bool) (f : Field) (from : ℕ) (e : Float) (k : ℕ) (on-lattice : on_lattice k ≡ true) (s : State) (w : ℕ) (ks : List ℕ)
    (ds es : List Float) (cs : List ℕ) (h : Front true s ks ds w es cs) (told : Told seed f from (k ∷ []) s) (p : ℕ) (a : spot_of k ks ≡ Err p)
    (b : Bool) (asked : b ≡ other_spread seed f from s.stored (f.near k)) where
  new : is_stored k s.stored ≡ false
  new = no_stored k s.stored (unmarked s.stored _ ks ds h.marked k (real_key k on-lattice) (value_absent (label k) ks ds p a)).0

  tells : waits k s.waiting ≡ b
  unfolding member
  tells = told k (rw (eq-eqb k k refl)) new ∙ sym asked

  pub lean_already : b ≡ true → LeftCells true (wait (length cs) e k s) s (Ok w) ks ds es cs
  lean_already t = wait_skips true e k s w ks ds es cs h (rw (tells ∙ t) (or-true (is_stored k s.stored)))

  pub lean_full : b ≡ false → length cs ≤ w → LeftCells true (wait (length cs) e k s) s (Err NoWaitingPlace) ks ds es cs
  lean_full t l = wait_refused true e k s w ks ds es cs h new (tells ∙ t) l

  pub lean_placed :
      b ≡ false
      → w < length cs
      → eq e e ≡ true
      → (es' : List Float) (cs' : List ℕ)
      → ((l : List Cell) → Heaped l w es cs → eq e e ≡ true → waits k l ≡ false → Heaped (insert cell_before (cell e k) l) (w + 1) es' cs')
      → LeftCells true (wait (length cs) e k s) s (Ok (w + 1)) ks ds es' cs'
  unfolding LeftCells marking
  lean_placed t l o es' cs' pushed = (
    state s.stored (insert cell_before (cell e k) s.waiting) s.takings,
    (
      wait_goes true e k s w ks ds es cs h new (tells ∙ t) l,
      (
        refl,
        record {
          marked = h.marked;
          heap = pushed s.waiting h.heap o (tells ∙ t);
          lattice = lattice_more e k s.waiting on-lattice h.lattice;
        },
      ),
    ),
  )

-- ---- storing

module _ (k : ℕ) (on-lattice : on_lattice k ≡ true) (v : Float) (f : is_finite v ≡ true) (s : State) (ws vs : List ℕ) (n : ℕ) (ks : List ℕ) (ds : List Float)
    (h : Marked s.stored ws ks ds) (same : (j : ℕ) → (k ≡ j → ⊥) → member j ws ≡ member j vs) (c : n ≡ length s.stored)
    (o : member k (keys_of s.stored) ≡ false) where
  pub store_full : length ks ≤ n → LeftRows (store (length ks) (marched_row k v) s) s vs (Err NoPlace) ks ds
  unfolding store LeftRows
  store_full l = rw (le-ltb (length s.stored) (length ks) (omega arith))

  module _ (l : n < length ks) where
    stored :
        (ks' : List ℕ) (ds' : List Float)
        → Kept ks'
        → length ds' ≡ length ks'
        → look k ks' ds' ≡ Some v
        → ((j : ℕ) → (label j ≡ label k → ⊥) → look j ks' ds' ≡ look j ks ds)
        → LeftRows (store (length ks) (marched_row k v) s) s vs (Ok (n + 1)) ks' ds'
    unfolding store LeftRows
    stored ks' ds' kept long new others =
        let m = insert_length row_before (marched_row k v) s.stored in (
          state (insert row_before (marched_row k v) s.stored) s.waiting s.takings,
          (
            rw (lt-ltb (length s.stored) (length ks) (omega arith)),
            (
              refl,
              (
                marked_row s.stored ws ks ds h k (real_key k on-lattice) v ks' ds' kept long new others vs same o f,
                omega arith,
              ),
            ),
          ),
        )

    -- a key with a mark gets another
    pub store_at : (i : ℕ) → spot_of k ks ≡ Ok i → LeftRows (store (length ks) (marched_row k v) s) s vs (Ok (n + 1)) ks (set ds i v)
    store_at i a =
        stored ks (set ds i v) h.kept (length-set ds i v ∙ h.long) (look_set k ks ds i a h.long v) (look_set_other k ks ds i a h.long v)

    -- one without gets its first
    pub store_put : (ks' : List ℕ) (ds' : List Float) → Entered k v ks ds ks' ds' → LeftRows (store (length ks) (marched_row k v) s) s vs (Ok (n + 1)) ks' ds'
    store_put ks' ds' did = stored ks' ds' did.kept (did.values ∙ sym did.places) did.value did.others

-- ---- putting a mark in

-- where stored cells and those with the mark of a waiting one are fewer than the places, one is empty
pub entered_by :
    (rs : List MarchedRow) (ws : List ℕ) (k p : ℕ) (v : Float) (ks : List ℕ) (ds : List Float) (ks' : List ℕ) (ds' : List Float)
    → Enters k p v ks ds ks' ds'
    → Marked rs ws ks ds
    → length rs + length ws < length ks
    → spot_of k ks ≡ Err p
    → Entered k v ks ds ks' ds'
entered_by rs ws k p v ks ds ks' ds' did h few absent =
    did (record { kept = h.kept; long = h.long; absent = absent; room = let m = marks_fit rs ws ks ds h in omega arith })

-- in a march with marks of waiting cells
pub waits_entered :
    (s : State) (k p : ℕ) (v : Float) (ks : List ℕ) (ds : List Float) (ks' : List ℕ) (ds' : List Float) (w : ℕ) (es : List Float) (cs : List ℕ)
    → Enters k p v ks ds ks' ds'
    → Front false s ks ds w es cs
    → length s.stored + length s.waiting < length ks
    → spot_of k ks ≡ Err p
    → Entered k v ks ds ks' ds'
unfolding marking
waits_entered s k p v ks ds ks' ds' w es cs did h few absent =
    entered_by s.stored (cells_of s.waiting) k p v ks ds ks' ds' did h.marked
    (let m = length-map s.waiting (λ (c : Cell). c.key) in omega arith) absent

-- a march of the same kind
pub wait_as :
    (lean l : Bool) (seed : ℕ → Bool) (f : Field) (k : ℕ) (ns : List ℕ) (go : State → Going) (ks : List ℕ) (ds : List Float) (w : ℕ) (es : List Float)
    (cs : List ℕ) (r : Result ℕ Refusal) (ks' : List ℕ) (ds' es' : List Float) (cs' : List ℕ)
    → lean ≡ l
    → DoesWait l seed f k ns go ks ds w es cs r ks' ds' es' cs'
    → DoesWait lean seed f k ns go ks ds w es cs r ks' ds' es' cs'
wait_as lean l seed f k ns go ks ds w es cs r ks' ds' es' cs' e did =
    subst (λ (b : Bool). DoesWait b seed f k ns go ks ds w es cs r ks' ds' es' cs') (sym e) did
