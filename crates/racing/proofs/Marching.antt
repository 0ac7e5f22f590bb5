-- The two loops of the march: what is left to do says what the whole does. Assumes nothing.
use Rattle.std.specs.Prelude.{Ok, Err, Result}
use mathlib.Core.Path.{◌≡◌, refl, sym, ap, subst, ◌∙◌}
use mathlib.Core.Bool.{Bool, true, false, cond}
use mathlib.Core.List.{List, [], ◌∷◌}
use Prim.Native.Nat.{ℕ, zero, suc, ◌+◌, ◌<◌, ◌≤◌, zero-le, suc-le-suc}
use native.Mathlib.Nat.{suc-ne-zero}
use native.Mathlib.Numerals.{add-one}
use native.Mathlib.Omega.{arith}
use borrow.Author.Tests.{eq-eqb}
use lib.ListN.{length, get_or, take, drop, length-map, length-take, drop_of_length-le}
use lib.Seq.{get_or-take}
use lib.Ieee.{Float}
use Rattle.heap.specs.Heap.{Heaped}
use Rattle.heap.proofs.Laws.{heaped_key}
use Rattle.ids.specs.Key.{on_lattice}
use Rattle.search.specs.Keys.{member, ascending}
use Rattle.lists.specs.Lists.{◌∈◌, All, insert}
use Rattle.lists.proofs.Bools.{cases}
use Rattle.table.specs.Table.{Row, rows_of, table}
use Rattle.table.specs.Rows.{keys_of as table_keys}
use Rattle.table.proofs.Laying.{columns}
use Rattle.marching.specs.March.{MarchedRow, marched_row, Cell, State, Field, Rooms, rooms, Going, on, and_then, row_before, keys_of, cells_of, is_seed, seeds, sow, sow_all, taking, take_up_to, nothing}
use Rattle.marching.specs.March as march
use Rattle.marching.specs.Spreading.{seed_in}
use Rattle.marching.proofs.KeysOnce.{Once, ascending_once, both, both_none, both_other, insert_member}
use Rattle.marching.proofs.Sound.{After, after_on, after_cond, after_weaken, Sound, SoundOn, sow_sound, sow_all-sound, nothing_sound, take_sound, takings_few, empty_stays}
use Rattle.marching.specs.Crowding.{surely_full}
use Rattle.marching.proofs.Crowding.{crowded}
use Rattle.marching.proofs.Lattice.{seeds_ascend}
use Rattle.marching.proofs.Spreading.{Sowing, Known, sow_sowing, nothing_sowing, all_sown, taking_known}
use Rattle.marching.proofs.Telling.{sow_told, settle_told, seeds_looked_up}
use Rattle.hearing.specs.Hearing.{Lent, Marked}
use Rattle.refusals.specs.declared.Refusal.{Refusal}
use Rattle.refusals.specs.declared.Refusal.TheVariants.{NoPlace}
use Rattle.fronts.specs.Fronts.{marking, Held, rooms_of, Stopped, ToldOnce, ToldFirst}
use Rattle.racing.specs.declared.Pace.{Pace}
use Rattle.racing.specs.Racing.{Tabled, sow_if, MayStep, Goes, Sown, Emptied}
use Rattle.fronts.proofs.Walking.{stopped_then, stopped_by}
use Rattle.fronts.proofs.Stepping.{uncons}

-- equal rooms
pub same_rooms : (m : Rooms) (ks cs : List ℕ) → length ks ≡ m.rows → length cs ≡ m.cells → rooms_of ks cs ≡ m
same_rooms m ks cs p q = ap (λ (x : ℕ). rooms x (length cs)) p ∙ ap (λ (x : ℕ). rooms m.rows x) q

-- ---- takings

-- after k takings: the state, and how many takings are left of the whole
pub record TakeAt (lean : Bool) (seed : ℕ → Bool) (f : Field) (m : Rooms) (whole : Going) (k n : ℕ) (ks : List ℕ) (ds : List Float) (w : ℕ)
    (es : List Float) (cs : List ℕ) : Type 0 where
  pub now : State
  pub sound : Sound m k now
  pub known : Known f seed now
  pub ready : MayStep lean now n ks ds w es cs
  pub left : ℕ
  pub counts : left + k ≡ suc m.rows
  pub rest : whole ≡ take_up_to f m left now

pub no_cells : (cs : List Cell) → 0 ≡ length cs → cs ≡ []
no_cells [] e = refl
no_cells (c ∷ cs) e = absurd (suc-ne-zero _ (sym e))

-- where no cell waits, the lists are those of a lean march
lean_ended : (lean : Bool) (s : State) (n : ℕ) (ks : List ℕ) (ds : List Float) (w : ℕ) (es : List Float) (cs : List ℕ)
    → s.waiting ≡ []
    → Held lean s n ks ds w es cs
    → Held true s n ks ds w es cs
unfolding marking
lean_ended true s n ks ds w es cs e h = h
lean_ended false s n ks ds w es cs e h =
    record {
      front = record {
        marked = subst (λ (l : List ℕ). Marked s.stored l ks ds) (ap (λ (l : List Cell). cells_of l) e) h.front.marked;
        heap = h.front.heap;
        lattice = h.front.lattice;
      };
      count = h.count;
    }

-- who waits is told, once the first waiting cell is taken
told_first : (seed : ℕ → Bool) (f : Field) (s : State) → Known f seed s → ToldFirst seed f s
told_first seed f s h c cs e new d t st w = settle_told seed f (marched_row c.key d) c cs s t h e refl new st w

module _ (lean : Bool) (seed : ℕ → Bool) (f : Field) (back : (k l : ℕ) → l ∈ f.near k → k ∈ f.near l) where
  pub take_start :
      (rs : List MarchedRow)
      → ((k : ℕ) → member k (keys_of rs) ≡ seed k)
      → (s : State) (n : ℕ) (ks : List ℕ) (ds : List Float) (w : ℕ) (es : List Float) (cs : List ℕ)
      → Sown rs f.near lean s n ks ds w es cs
      → TakeAt lean seed f (rooms_of ks cs) (take_up_to f (rooms_of ks cs) (suc (length ks)) s) 0 n ks ds w es cs
  take_start rs seeds_are s n ks ds w es cs h =
      let m = rooms_of ks cs in
      record {
        now = s;
        sound =
            after_on (Sound m 0) (sow_all f.near m rs nothing) s
            (sow_all-sound m f.near rs nothing (nothing_sound m) (ascending_once (keys_of rs) h.ascends)
            (both_none (keys_of rs))) h.sown;
        known = after_on (Known f seed) (sow_all f.near m rs nothing) s (all_sown f m back seed rs h.ascends seeds_are) h.sown;
        ready = h.ready;
        left = suc (length ks);
        counts = omega arith;
        rest = refl;
      }

module _ (lean : Bool) (seed : ℕ → Bool) (f : Field) (back : (k l : ℕ) → l ∈ f.near k → k ∈ f.near l) (m : Rooms) (whole : Going) (k n : ℕ)
    (ks : List ℕ) (ds : List Float) (w : ℕ) (es : List Float) (cs : List ℕ) (at : TakeAt lean seed f m whole k n ks ds w es cs) where
  pub take_few : k ≤ m.rows
  take_few = (takings_few m k at.now at.sound).1

  -- one more is left, as the takings are at most the rows that have a place
  one_left : (j : ℕ) × ((j + suc k ≡ suc m.rows) × (whole ≡ and_then (march.take f m at.now) (take_up_to f m j)))
  unfolding take_up_to
  one_left = go at.left at.counts at.rest
    where
      go :
          (i : ℕ)
          → i + k ≡ suc m.rows
          → whole ≡ take_up_to f m i at.now
          → (j : ℕ) × ((j + suc k ≡ suc m.rows) × (whole ≡ and_then (march.take f m at.now) (take_up_to f m j)))
      go zero c r = absurd (let t = take_few in omega arith)
      go (suc i) c r = (i, (omega arith, r))

  module _ (p : length ks ≡ m.rows) (q : length cs ≡ m.cells) where
    -- it is sure to be refused for want of a row's place
    pub take_crowded : ((j : ℕ) → length (f.near j) ≤ 14) → surely_full (length ks) (length cs) n w k ≡ true → Stopped whole NoPlace
    take_crowded few full =
        let c = at.ready.held.count in
        let d = at.ready.held.front.heap.counted in
        let e = at.counts in
        at.rest ∙ crowded f few m at.left k at.now at.sound (omega arith) (rw (← p, ← q, ← c, ← d) full)

    module _ (l : 0 < w) (r : Result Pace Refusal) (ks' : List ℕ) (ds' es' : List Float) (cs' : List ℕ)
        (did : (s : State) → MayStep lean s n ks ds w es cs → ToldFirst seed f s → Goes (march.take f (rooms_of ks cs) s) r ks' ds' es' cs') where
      done : (o : Result Pace Refusal) → r ≡ o → Goes (march.take f m at.now) o ks' ds' es' cs'
      done o e =
          subst (λ (x : Rooms). Goes (march.take f x at.now) o ks' ds' es' cs') (same_rooms m ks cs p q)
          (subst (λ (x : Result Pace Refusal). Goes (march.take f (rooms_of ks cs) at.now) x ks' ds' es' cs') e
          (did at.now at.ready (told_first seed f at.now at.known)))

      pub take_stop : (why : Refusal) → r ≡ Err why → Stopped whole why
      unfolding Goes
      take_stop why e = stopped_by whole _ why one_left.1.1 (stopped_then (march.take f m at.now) _ why (done (Err why) e))

      pub take_more : (a : Pace) → r ≡ Ok a → TakeAt a.lean seed f m whole (k + 1) a.rows ks' ds' a.waiting es' cs'
      unfolding Goes and_then
      take_more a e =
          let x = done (Ok a) e in
          let u = uncons at.now.waiting w at.ready.held.front.heap.counted l in
          let o = one_left in
          let t : After (Sound m (suc k)) (march.take f m at.now) =
          subst (λ (y : List Cell). After (Sound m (suc k)) (taking f m y at.now)) (sym u.1.1)
          (take_sound m f k u.0 u.1.0 at.now at.sound u.1.1) in
          record {
            now = x.0;
            sound = subst (λ (i : ℕ). Sound m i x.0) (sym (add-one k)) (after_on (Sound m (suc k)) (march.take f m at.now) x.0 t x.1.0);
            known =
                after_on (Known f seed) (march.take f m at.now) x.0 (taking_known f m back seed at.now.waiting at.now refl at.known) x.1.0;
            ready = x.1.1;
            left = o.0;
            counts = let c = o.1.0 in omega arith;
            rest = o.1.1 ∙ ap (λ (g : Going). and_then g (take_up_to f m o.0)) x.1.0;
          }

  -- no cell waits
  pub take_finish : length ks ≡ m.rows → w ≤ 0 → Emptied whole (Ok (n, k)) ks ds es cs
  unfolding Emptied
  take_finish p l =
      let z : w ≡ 0 = omega arith in
      let h = subst (λ (x : ℕ). Held lean at.now n ks ds x es cs) z at.ready.held in
      let e = no_cells at.now.waiting h.front.heap.counted in (
        at.now,
        (
          at.rest ∙ empty_stays m f at.left at.now e,
          (at.sound.taken, (lean_ended lean at.now n ks ds 0 es cs e h, let c = at.ready.held.count in let f = at.sound.rows_fit in omega arith)),
        ),
      )

-- ---- seeds

-- the keys of a lent table's rows ascend
pub rows_ascend : (ks : List ℕ) (ds ws : List Float) (n : ℕ) → Lent (table ks ds ws n) → ascending (table_keys (rows_of ks ds ws n)) ≡ true
rows_ascend ks ds ws n h = rw (columns ks ds ws n h.distances h.weights).0 h.ascends

sow_one :
    (t : Float) (near : ℕ → List ℕ) (m : Rooms) (r : Row) (rs : List Row) (s : State)
    → sow_all near m (seeds t (r ∷ rs)) s ≡ and_then (sow_if t near m r s) (sow_all near m (seeds t rs))
unfolding seeds sow_all sow_if and_then
sow_one t near m r rs s =
    cases (λ (b : Bool).
    sow_all near m (cond b (marched_row r.key r.distance ∷ seeds t rs) (seeds t rs)) s
    ≡ and_then (cond b (sow near m (marched_row r.key r.distance) s) (on s)) (sow_all near m (seeds t rs)))
    (is_seed t r)
    (λ e. refl) (λ e. refl)

-- a row that is no seed is not sown
pub sow_if_not :
    (lean : Bool) (t : Float) (near : ℕ → List ℕ) (m : Rooms) (x : Row) (s : State)
    → is_seed t x ≡ false
    → (n : ℕ) (ks : List ℕ) (ds : List Float) (w : ℕ) (es : List Float) (cs : List ℕ)
    → MayStep lean s n ks ds w es cs
    → Goes (sow_if t near m x s) (Ok (record { rows = n; waiting = w; lean = lean })) ks ds es cs
unfolding sow_if Goes
sow_if_not lean t near m x s e n ks ds w es cs h = (s, (rw e, h))

-- nothing of these keys is stored
pub record Apart (m : Rooms) (ks : List ℕ) (s : State) : Type 0 where
  pub sound : Sound m 0 s
  pub apart : both ks (keys_of s.stored) ≡ 0

sow_if-apart :
    (t : Float) (near : ℕ → List ℕ) (m : Rooms) (r : Row) (ks : List ℕ) (s : State)
    → Apart m ks s
    → member r.key (keys_of s.stored) ≡ false
    → member r.key ks ≡ false
    → After (Apart m ks) (sow_if t near m r s)
unfolding sow_if After
sow_if-apart t near m r ks s h new o =
    let x = marched_row r.key r.distance in
    after_cond (Apart m ks) (is_seed t r) (sow near m x s) (on s)
    (λ _. after_weaken (SoundOn m 0 (insert row_before x s.stored)) (Apart m ks) (sow near m x s)
    (λ u v. record {
      sound = v.sound;
      apart =
          rw v.rows
          (both_other r.key (keys_of s.stored) (keys_of (insert row_before x s.stored))
          (λ w. insert_member row_before x (λ (y : MarchedRow). y.key) w s.stored) ks o
          ∙ h.apart);
    })
    (sow_sound m near x s h.sound new))
    (λ _. h)

-- a seed is sown, or another row left out: who waits is known by those to be sown
sow_if-sowing : (f : Field) (m : Rooms) (back : (k l : ℕ) → l ∈ f.near k → k ∈ f.near l) (seed : ℕ → Bool) (t : Float) (r : Row) (rs : List Row) (s : State)
    → Sowing f seed (seeds t (r ∷ rs)) s
    → After (Sowing f seed (seeds t rs)) (sow_if t f.near m r s)
unfolding sow_if seeds After
sow_if-sowing f m back seed t r rs s h =
    cases (λ (b : Bool).
    Sowing f seed (cond b (marched_row r.key r.distance ∷ seeds t rs) (seeds t rs)) s
    → After (Sowing f seed (seeds t rs)) (cond b (sow f.near m (marched_row r.key r.distance) s) (on s))) (is_seed t r)
    (λ _ g. sow_sowing f m back seed (marched_row r.key r.distance) (seeds t rs) s g) (λ _ g. g) h

seed_told : (f : Field) (seed : ℕ → Bool) (t : Float) (r : Row) (rs : List Row) (s : State)
    → Sowing f seed (seeds t (r ∷ rs)) s
    → is_seed t r ≡ true
    → ToldOnce seed f r.key s
unfolding seeds
seed_told f seed t r rs s h e d u st w =
    sow_told seed f (marched_row r.key d) (marched_row r.key r.distance) (seeds t rs) s u (rw e at h) refl st w

-- before row i
pub record SowAt (lean : Bool) (seed : ℕ → Bool) (f : Field) (t : Float) (m : Rooms) (rs : List Row) (i n : ℕ) (ks : List ℕ) (ds : List Float) (w : ℕ)
    (es : List Float) (cs : List ℕ) : Type 0 where
  pub now : State
  pub ready : MayStep lean now n ks ds w es cs
  pub once : Once (table_keys (drop i rs))
  pub apart : Apart m (table_keys (drop i rs)) now
  pub sowing : Sowing f seed (seeds t (drop i rs)) now
  pub rest : sow_all f.near m (seeds t rs) nothing ≡ sow_all f.near m (seeds t (drop i rs)) now

pub sow_start :
    (lean : Bool) (seed : ℕ → Bool) (f : Field) (t : Float) (m : Rooms) (rs : List Row) (ks : List ℕ) (ds es : List Float) (cs : List ℕ)
    → ascending (table_keys rs) ≡ true
    → ((k : ℕ) → member k (keys_of (seeds t rs)) ≡ seed k)
    → MayStep lean nothing 0 ks ds 0 es cs
    → SowAt lean seed f t m rs 0 0 ks ds 0 es cs
sow_start lean seed f t m rs ks ds es cs a seeds_are h =
    record {
      now = nothing;
      ready = h;
      once = ascending_once (table_keys rs) a;
      apart = record { sound = nothing_sound m; apart = both_none (table_keys rs) };
      sowing = nothing_sowing f seed (seeds t rs) (seeds_ascend t rs a) seeds_are;
      rest = refl;
    }

module _ (lean : Bool) (seed : ℕ → Bool) (f : Field) (back : (k l : ℕ) → l ∈ f.near k → k ∈ f.near l) (t : Float) (m : Rooms) (rs : List Row) (i n : ℕ)
    (ks : List ℕ) (ds : List Float) (w : ℕ) (es : List Float) (cs : List ℕ) (at : SowAt lean seed f t m rs i n ks ds w es cs) where
  module _ (x : Row) (here : drop i rs ≡ x ∷ drop (suc i) rs) where
    split : (member x.key (keys_of at.now.stored) ≡ false)
        × ((member x.key (table_keys (drop (suc i) rs)) ≡ false)
        × (Once (table_keys (drop (suc i) rs)) × Apart m (table_keys (drop (suc i) rs)) at.now))
    unfolding both Once
    split =
        let o : Once (table_keys (x ∷ drop (suc i) rs)) = subst (λ (l : List Row). Once (table_keys l)) here at.once in
        let b : both (table_keys (x ∷ drop (suc i) rs)) (keys_of at.now.stored) ≡ 0 =
        subst (λ (l : List Row). both (table_keys l) (keys_of at.now.stored) ≡ 0) here at.apart.apart in (
          absent (member x.key (keys_of at.now.stored)) _ b,
          (o.0, (o.1, record { sound = at.apart.sound; apart = omega arith })),
        )
      where
        absent : (c : Bool) (y : ℕ) → cond c 1 0 + y ≡ 0 → c ≡ false
        absent true y e = absurd (omega arith)
        absent false y e = refl

    sowing_here : Sowing f seed (seeds t (x ∷ drop (suc i) rs)) at.now
    sowing_here = subst (λ (l : List Row). Sowing f seed (seeds t l) at.now) here at.sowing

    pub sow_new : member x.key (keys_of at.now.stored) ≡ false
    sow_new = split.0

    goes : sow_all f.near m (seeds t rs) nothing ≡ and_then (sow_if t f.near m x at.now) (sow_all f.near m (seeds t (drop (suc i) rs)))
    goes = at.rest ∙ ap (λ (l : List Row). sow_all f.near m (seeds t l) at.now) here ∙ sow_one t f.near m x (drop (suc i) rs) at.now

    module _ (p : length ks ≡ m.rows) (q : length cs ≡ m.cells) (r : Result Pace Refusal) (ks' : List ℕ) (ds' es' : List Float)
        (cs' : List ℕ)
        (did : (s : State)
        → MayStep lean s n ks ds w es cs
        → member x.key (keys_of s.stored) ≡ false
        → (is_seed t x ≡ true → ToldOnce seed f x.key s)
        → Goes (sow_if t f.near (rooms_of ks cs) x s) r ks' ds' es' cs') where
      sown : (o : Result Pace Refusal) → r ≡ o → Goes (sow_if t f.near m x at.now) o ks' ds' es' cs'
      sown o e =
          subst (λ (z : Rooms). Goes (sow_if t f.near z x at.now) o ks' ds' es' cs') (same_rooms m ks cs p q)
          (subst (λ (z : Result Pace Refusal). Goes (sow_if t f.near (rooms_of ks cs) x at.now) z ks' ds' es' cs') e
          (did at.now at.ready sow_new (seed_told f seed t x (drop (suc i) rs) at.now sowing_here)))

      pub sow_stop : (why : Refusal) → r ≡ Err why → Goes (sow_all f.near m (seeds t rs) nothing) (Err why) ks' ds' es' cs'
      unfolding Goes
      sow_stop why e = stopped_by _ _ why goes (stopped_then (sow_if t f.near m x at.now) _ why (sown (Err why) e))

      pub sow_more : (a : Pace) → r ≡ Ok a → SowAt a.lean seed f t m rs (i + 1) a.rows ks' ds' a.waiting es' cs'
      unfolding Goes and_then
      sow_more a e =
          let y = sown (Ok a) e in
          let z = split in
          subst (λ (j : ℕ). SowAt a.lean seed f t m rs j a.rows ks' ds' a.waiting es' cs') (sym (add-one i))
          (record {
            now = y.0;
            ready = y.1.1;
            once = z.1.1.0;
            apart =
                after_on (Apart m (table_keys (drop (suc i) rs))) (sow_if t f.near m x at.now) y.0
                (sow_if-apart t f.near m x (table_keys (drop (suc i) rs)) at.now z.1.1.1 z.0 z.1.0)
                y.1.0;
            sowing =
                after_on (Sowing f seed (seeds t (drop (suc i) rs))) (sow_if t f.near m x at.now) y.0
                (sow_if-sowing f m back seed t x (drop (suc i) rs) at.now sowing_here) y.1.0;
            rest = goes ∙ ap (λ (g : Going). and_then g (sow_all f.near m (seeds t (drop (suc i) rs)))) y.1.0;
          })

  pub sow_finish : drop i rs ≡ [] → Goes (sow_all f.near m (seeds t rs) nothing) (Ok (record { rows = n; waiting = w; lean = lean })) ks ds es cs
  unfolding Goes seeds sow_all
  sow_finish e = (at.now, (at.rest ∙ ap (λ (l : List Row). sow_all f.near m (seeds t l) at.now) e, at.ready))

-- no row is left
pub rows_past : (ks : List ℕ) (ds ws : List Float) (n i : ℕ) → n ≤ i → drop i (rows_of ks ds ws n) ≡ []
rows_past ks ds ws n i g = drop_of_length-le (rows_of ks ds ws n) {i = i} (rw length-take (omega arith))

-- the seeds of a lent table are those that are looked up there
pub seeds_are : (t : Float) (ks : List ℕ) (ds ws : List Float) (n : ℕ) → Lent (table ks ds ws n)
    → (k : ℕ)
    → member k (keys_of (seeds t (rows_of ks ds ws n))) ≡ seed_in t (rows_of ks ds ws n) k
seeds_are t ks ds ws n h =
    seeds_looked_up t (rows_of ks ds ws n) (ascending_once (table_keys (rows_of ks ds ws n)) (rows_ascend ks ds ws n h))

-- the key of the first waiting cell is on the lattice
pub first_on_lattice : (lean : Bool) (s : State) (n : ℕ) (ks : List ℕ) (ds : List Float) (w : ℕ) (es : List Float) (cs : List ℕ)
    → Held lean s n ks ds w es cs
    → 0 < w
    → on_lattice (get_or cs 0 0) ≡ true
unfolding member
first_on_lattice lean s n ks ds w es cs h l =
    let u = uncons s.waiting w h.front.heap.counted l in
    let e = heaped_key u.0 u.1.0 w es cs (subst (λ (x : List Cell). Heaped x w es cs) u.1.1 h.front.heap) in
    h.front.lattice (get_or cs 0 0)
    (ap (λ (x : List Cell). member (get_or cs 0 0) (cells_of x)) u.1.1 ∙ rw (eq-eqb u.0.key (get_or cs 0 0) (sym e)))

-- every row of a lent table is on the lattice
pub rows_lattice : (ks : List ℕ) (ds ws : List Float) (n : ℕ) → Tabled (table ks ds ws n) → All (λ (r : Row). on_lattice r.key ≡ true) (rows_of ks ds ws n)
unfolding All
rows_lattice ks ds ws n h = by_keys (rows_of ks ds ws n) (λ i l. own i l)
  where
    by_keys : (rs : List Row) → ((i : ℕ) → i < length rs → on_lattice (get_or (table_keys rs) i 0) ≡ true) → All (λ (r : Row). on_lattice r.key ≡ true) rs
    by_keys [] g = tt
    by_keys (r ∷ rs) g = (g 0 (suc-le-suc zero-le), by_keys rs (λ i l. g (suc i) (suc-le-suc l)))

    own : (i : ℕ) → i < length (rows_of ks ds ws n) → on_lattice (get_or (table_keys (rows_of ks ds ws n)) i 0) ≡ true
    own i l =
        let c = (columns ks ds ws n h.lent.distances h.lent.weights).0 in
        let m : length (rows_of ks ds ws n) ≡ length (take n ks) = sym (length-map (rows_of ks ds ws n) (λ (r : Row). r.key)) ∙ ap length c in
        let k : i < n = omega (arith, l, m, length-take n ks) in
        rw (c, get_or-take n ks i 0 k) (h.lattice i k)
