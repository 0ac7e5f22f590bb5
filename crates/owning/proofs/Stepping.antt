-- A near reading fused into an own row: the batch goes on as it does with the table that has the own rows.
-- Assumes nothing.
use Rattle.std.specs.Prelude.{Ok, Err, Some, None, Option, Result}
use mathlib.Core.Path.{◌≡◌, refl, sym, ap, subst, ◌∙◌}
use mathlib.Core.Logic.{◌⊎◌, inl, inr}
use mathlib.Core.Bool.{Bool, true, false, cond, not, ◌||◌}
use mathlib.Core.List.{List, [], ◌∷◌, ◌++◌}
use Prim.Native.Nat.{ℕ, zero, suc, ◌+◌, ◌-◌, ◌<◌, ◌≤◌}
use native.Mathlib.Nat.{not-suc-le-zero, le_of_suc-le-suc, add-suc}
use native.Mathlib.Omega.{arith}
use borrow.Author.Tests.{lt-ltb, eqb-true, eqb-false}
use lib.Dec.{eqb}
use lib.ListN.{length, get_or, take, drop, set, length-map, length-set, length-append, length-drop, get_or-append}
use lib.Seq.{set-get_or, get_or-take, take-set-lt, length-take-le, drop-append-add, drop-drop, get_or-set_same, get_or-set_other}
use lib.Ieee.{Float, nan, lt}
use Rattle.floats.specs.Floats.{zero32, one32, million, within, between}
use Rattle.gathering.specs.Gathering.{standing, puts}
use Rattle.gathering.proofs.PutLaws.{HasRow, has_put, longer, no_shorter, puts_set, puts_absent}
use Rattle.lists.proofs.BesideLaws.{by_set}
use Rattle.lists.proofs.Bools.{cases}
use Rattle.refusals.specs.declared.Refusal.TheVariants.{TooLarge}
use Rattle.table.specs.declared.Settings.{Settings}
use Rattle.search.specs.Keys.{find, ascending}
use Rattle.table.specs.Table.{Row, row, Table, beside, rows_of, rows, table_check, put, laid, relaid}
use Rattle.search.proofs.KeyLaws.{found, first_below, tail_ascends}
use Rattle.table.proofs.RowLaws.{lengths_known}
use Rattle.table.specs.Rows.{keys_of}
use Rattle.table.proofs.Laying.{distances_of, weights_of, columns, put_set}
use Rattle.table.proofs.Checking.{sound}
use Rattle.table.proofs.Putting.{same_table, rows_length}
use Rattle.table.proofs.Keeping.{relaid_rows, relaid_keys}
use Rattle.fusing.specs.declared.Averaging.{Averaging}
use Rattle.table.specs.declared.Voxel.{Voxel}
use Rattle.measuring.specs.declared.Measured.{Measured}
use Rattle.fusing.specs.declared.Fused.{Fused}
use Rattle.owning.specs.declared.Owned.{Owned}
use Rattle.measuring.specs.Readings.{admitted}
use Rattle.fusing.specs.Fusing.{Outcome, outcome, averaging_of, fused_voxel, voxel_at, has_place, step_at, stored, fused_near, fused_if, fuse_if, effect_of, fused_of, answered, fuse}
use Rattle.batching.specs.Batches.{refused_reading, BatchEnd, batch_end, Entry, direct_of, stop_or, batch_from}
use Rattle.sorting.specs.Sorting.{Numbered}
use Rattle.owning.specs.Runs.{over, Ready, old_voxel, voxel_after, Placed, StepLeft}
use Rattle.fusing.proofs.Keeping.{weight_above, voxel_kept, zero_in, fuse_keeps}
use Rattle.fusing.proofs.FuseLaws.{stored_answers}
use Rattle.refusals.specs.declared.Refusal.{Refusal}

-- ---- lists

laid_past : {A : Type 0} (xs l : List A) (n : ℕ) → length xs ≤ n → drop n (xs ++ drop (length xs) l) ≡ drop n l
laid_past xs l n h =
    let e : n ≡ length xs + (n - length xs) = omega arith in
    ap (λ (i : ℕ). drop i (xs ++ drop (length xs) l)) e
    ∙ drop-append-add xs (drop (length xs) l) (n - length xs)
    ∙ drop-drop (n - length xs) (length xs) l
    ∙ ap (λ (i : ℕ). drop i l) (sym e)

-- rows laid over no more rows
pub relaid_twice : (t : Table) (ps qs : List Row) → length ps ≤ length qs → relaid (relaid t ps) qs ≡ relaid t qs
unfolding relaid
relaid_twice t ps qs h =
    same_table
    (ap (λ (l : List ℕ). keys_of qs ++ l) (laid_past (keys_of ps) t.keys (length (keys_of qs)) (rw (length-map, length-map) h)))
    (ap (λ (l : List Float). distances_of qs ++ l) (laid_past (distances_of ps) t.distances (length (distances_of qs)) (rw (length-map, length-map) h)))
    (ap (λ (l : List Float). weights_of qs ++ l) (laid_past (weights_of ps) t.weights (length (weights_of qs)) (rw (length-map, length-map) h)))
    refl

-- an ascending key stands once
keys_once : (ks : List ℕ) (p q : ℕ) → ascending ks ≡ true → p < length ks → q < length ks → get_or ks p 0 ≡ get_or ks q 0 → p ≡ q
unfolding ascending
keys_once [] p q a h g e = absurd (not-suc-le-zero h)
keys_once (k ∷ ks) zero zero a h g e = refl
keys_once (k ∷ ks) zero (suc q) a h g e = absurd (omega (arith, first_below k ks q a (le_of_suc-le-suc g)))
keys_once (k ∷ ks) (suc p) zero a h g e = absurd (omega (arith, first_below k ks p a (le_of_suc-le-suc h)))
keys_once (k ∷ ks) (suc p) (suc q) a h g e =
    ap suc (keys_once ks p q (tail_ascends k ks a) (le_of_suc-le-suc h) (le_of_suc-le-suc g) e)

-- ---- what the code tells

pub after :
    (how : Averaging) (d w : Float) (m : Measured) (b : Bool) (o v : Voxel)
    → b ≡ standing how.most w
    → o ≡ old_voxel b d w
    → v ≡ fused_voxel how o m
    → v ≡ fused_voxel how (old_voxel (standing how.most w) d w) m
after how d w m b o v p q r = r ∙ ap (λ (x : Voxel). fused_voxel how x m) (q ∙ ap (λ (c : Bool). old_voxel c d w) p)

pub either : (a b t : Bool) → a ≡ t → not (a || b) ≡ false → (t ≡ true) ⊎ (b ≡ true)
either true b t e h = inl (sym e)
either false true t e h = inr refl
either false false t e h = let z : ◌≡◌ {A = ℕ} 0 1 = cc in absurd (omega arith)

pub other : (a b : Bool) → not (a || b) ≡ false → a ≡ false → b ≡ true
other true b h e = let z : ◌≡◌ {A = ℕ} 0 1 = cc in absurd (omega arith)
other false true h e = refl
other false false h e = let z : ◌≡◌ {A = ℕ} 0 1 = cc in absurd (omega arith)

-- the place of a slot counted from 1
pub numbered_place : (ks : List ℕ) (own k slot : ℕ)
    → own ≤ length ks
    → Numbered (take own ks) k slot
    → (0 < slot) × (slot - 1 < own) × (get_or ks (slot - 1) 0 ≡ k)
numbered_place ks own k slot fits n =
    let most = length-take-le own ks fits in
    let inside : slot - 1 < own = omega (arith, n.counted, n.within) in
    (n.counted, inside, sym (get_or-take own ks (slot - 1) 0 inside) ∙ n.there)

-- ---- the own row at p, whose key is k

module _ (s : Settings) (t : Table) (ks : List ℕ) (ds ws : List Float) (own added : ℕ)
    (ready : Ready s t ks ds ws own added) (p k : ℕ) (inside : p < own) (at : get_or ks p 0 ≡ k) where
  abbrev most : Float
  most = s.max_weight

  abbrev how : Averaging
  how = averaging_of s

  abbrev mine : List Row
  mine = rows_of ks ds ws own

  abbrev both : List Row
  both = puts most mine (rows t)

  abbrev now_table : Table
  now_table = relaid t both

  fit : (own ≤ length ks) × (length ds ≡ length ks) × (length ws ≡ length ks) × (length ks ≤ 65536)
  fit = lengths_known (length ks) (length ds) (length ws) own ready.lengths

  size : length mine ≡ own
  size = rows_length ks ds ws own ready.lengths

  cols : (keys_of mine ≡ take own ks) × (distances_of mine ≡ take own ds) × (weights_of mine ≡ take own ws)
  cols = columns ks ds ws own fit.1 fit.2

  row_set : (d w : Float) → rows_of ks (set ds p d) (set ws p w) own ≡ set mine p (row k d w)
  row_set d w =
      let e : set ks p k ≡ ks = rw (← at) (set-get_or ks p 0) in
      ap (λ (l : List ℕ). take own (beside l (set ds p d) (set ws p w))) (sym e)
      ∙ ap (take own) (by_set row ks ds ws p k d w fit.1 fit.2)
      ∙ take-set-lt own (beside ks ds ws) p (row k d w) inside

  -- a standing row there is put into both
  put_own : (d w : Float) → standing most w ≡ true → puts most (rows_of ks (set ds p d) (set ws p w) own) (rows t) ≡ put (row k d w) both
  put_own d w h =
      ap (λ (l : List Row). puts most l (rows t)) (row_set d w)
      ∙ puts_set most mine (rows t) p (row k d w) (rw cols.0 ready.order) (rw size inside) (rw (cols.0, get_or-take own ks p 0 inside) at) h

  -- the voxel of a row of both
  voxel_at_lem : (x : Row) (h : HasRow x both) → voxel_at (Some h.place) now_table ≡ record { distance = x.distance; weight = x.weight }
  unfolding relaid voxel_at
  voxel_at_lem x h =
      let l : h.place < length both = rw length-map at (found x.key (keys_of both) h.place h.at).0 in
      rw (
        get_or-append (distances_of both) (drop (length (distances_of both)) t.distances) nan h.place
            (rw length-map l),
        get_or-append (weights_of both) (drop (length (weights_of both)) t.weights) nan h.place
            (rw length-map l),
        h.distance,
        h.weight,
      )

  -- fusing, where the key's voxel is known and has a place
  near_own :
      (f : Option ℕ) (old : Voxel) (m : Measured)
      → find k (keys_of both) ≡ f
      → has_place f now_table ≡ true
      → voxel_at f now_table ≡ old
      → standing most (fused_voxel how old m).weight ≡ true
      → answered (fused_near how now_table k m) ≡ cond (within million (fused_voxel how old m).distance)
      (outcome (fused_of (step_at f now_table k))
      (over s t ks (set ds p (fused_voxel how old m).distance) (set ws p (fused_voxel how old m).weight) own))
      (outcome (Err TooLarge) now_table)
  unfolding fused_near
  near_own f old m e h q w =
      let v = fused_voxel how old m in
      let y = row k v.distance v.weight in
      ap (λ (g : Option ℕ). answered (stored now_table k (has_place g now_table) (step_at g now_table k) (fused_voxel how (voxel_at g now_table) m)))
      (ap (find k) (relaid_keys t both) ∙ e)
      ∙ ap (λ (o : Voxel). answered (stored now_table k (has_place f now_table) (step_at f now_table k) (fused_voxel how o m))) q
      ∙ ap (λ (b : Bool). answered (stored now_table k b (step_at f now_table k) v)) h
      ∙ stored_answers now_table k f v
      ∙ ap (λ (u : Table). cond (within million v.distance) (outcome (fused_of (step_at f now_table k)) u) (outcome (Err TooLarge) now_table))
      (ap (λ (l : List Row). relaid now_table (put y l)) (relaid_rows t both)
      ∙ relaid_twice t both (put y both) (no_shorter y both)
      ∙ ap (relaid t) (sym (put_own v.distance v.weight w)))

  -- the row stands
  module _ (st : standing most (get_or ws p nan) ≡ true) where
    abbrev x : Row
    x = row k (get_or ds p nan) (get_or ws p nan)

    has : HasRow x both
    has =
        let e = put_own (get_or ds p nan) (get_or ws p nan) st in
        let f : both ≡ put x both = rw (set-get_or ds p nan, set-get_or ws p nan) at e in
        subst (λ (l : List Row). HasRow x l) (sym f) (has_put x both)

    stands_many : (d w : Float) → length (put (row k d w) both) ≡ length both
    stands_many d w =
        let l : has.place < length both = rw length-map at (found k (keys_of both) has.place has.at).0 in
        let a : ascending (keys_of both) ≡ true = rw (relaid_keys t both) at (sound s now_table ready.again).order in
        ap length (put_set (row k d w) both has.place a l (found k (keys_of both) has.place has.at).1) ∙ length-set both has.place (row k d w)

  -- the row waits
  module _ (st : standing most (get_or ws p nan) ≡ false) where
    waiting : find k (keys_of both) ≡ None
    waiting =
        let f = lengths_known (length t.keys) (length t.distances) (length t.weights) t.count (sound s t ready.passed).lengths in
        let c = columns t.keys t.distances t.weights t.count f.1 f.2 in
        puts_absent most mine (rows t) k others (rw (c.0, ← at) (ready.waits p inside st))
      where
        others : (q : ℕ) → q < length mine → standing most (get_or (weights_of mine) q nan) ≡ true → get_or (keys_of mine) q 0 ≡ k → ⊥
        others q l b e =
            let i : q < own = rw size at l in
            let b' : standing most (get_or ws q nan) ≡ true = rw (cols.2, get_or-take own ws q nan i) at b in
            let e' : get_or (take own ks) q 0 ≡ get_or (take own ks) p 0 = rw cols.0 at e ∙ sym at ∙ sym (get_or-take own ks p 0 inside) in
            let o = keys_once (take own ks) q p ready.order (rw (length-take-le own ks fit.0) i) (rw (length-take-le own ks fit.0) inside) e' in
            let b'' : standing most (get_or ws p nan) ≡ true = rw o at b' in
            let z : ◌≡◌ {A = ℕ} 0 1 = cc in
            omega arith

    place_left : t.count + added < length t.keys → has_place None now_table ≡ true
    unfolding has_place relaid
    place_left h =
        lt-ltb (length both) (length (laid (keys_of both) t.keys))
        (rw (length-append, length-drop, length-map) (omega (arith, ready.many)))

  -- ---- what is left

  module _ (m : Measured) (on : between zero32 one32 m.confidence ≡ true) where
    above : lt zero32 most ≡ true
    above = weight_above s (sound s t ready.passed).settings

    abbrev v : Voxel
    v = voxel_after how ds ws p m

    old_in : (b : Bool) → standing most (get_or ws p nan) ≡ b → between zero32 most (old_voxel b (get_or ds p nan) (get_or ws p nan)).weight ≡ true
    unfolding old_voxel
    old_in true e = e
    old_in false e = zero_in most above

    weighs : standing most v.weight ≡ true
    weighs =
        voxel_kept how (old_voxel (standing most (get_or ws p nan)) (get_or ds p nan) (get_or ws p nan)) m above
        (old_in (standing most (get_or ws p nan)) refl) on

    -- fusing that is answered so, said of the own rows
    abbrev Said : Result Fused Refusal → Type 0
    Said a =
        answered (fused_near how now_table k m) ≡ cond (within million v.distance)
        (outcome a (over s t ks (set ds p v.distance) (set ws p v.weight) own))
        (outcome (Err TooLarge) now_table)

    said_stands : standing most (get_or ws p nan) ≡ true → Said (Ok Fused.Changed)
    unfolding has_place old_voxel step_at
    said_stands st =
        near_own (Some (has st).place) (old_voxel (standing most (get_or ws p nan)) (get_or ds p nan) (get_or ws p nan)) m (has st).at refl
        (voxel_at_lem (x st) (has st) ∙ ap (λ (b : Bool). old_voxel b (get_or ds p nan) (get_or ws p nan)) (sym st)) weighs

    said_waits : standing most (get_or ws p nan) ≡ false → t.count + added < length t.keys → Said (Ok Fused.New)
    unfolding voxel_at old_voxel step_at
    said_waits st h =
        near_own None (old_voxel (standing most (get_or ws p nan)) (get_or ds p nan) (get_or ws p nan)) m (waiting st) (place_left st h)
        (ap (λ (b : Bool). old_voxel b (get_or ds p nan) (get_or ws p nan)) (sym st)) weighs

    -- the rows that wait are still not in the table
    waits_on : (q : ℕ) → q < own → standing most (get_or (set ws p v.weight) q nan) ≡ false → find (get_or ks q 0) (take t.count t.keys) ≡ None
    waits_on q h e =
        cases (λ (b : Bool). find (get_or ks q 0) (take t.count t.keys) ≡ None) (eqb q p)
        (λ c.
        let same : q ≡ p = eqb-true q p c in
        let e' : standing most (get_or (set ws p v.weight) p nan) ≡ false = rw same at e in
        let e'' : standing most v.weight ≡ false = rw (get_or-set_same ws p v.weight nan (omega (arith, fit))) at e' in
        let w = weighs in
        let z : ◌≡◌ {A = ℕ} 0 1 = cc in
        absurd (omega arith))
        (λ c. ready.waits q h (rw (get_or-set_other ws p q v.weight nan (eqb-false q p c)) at e))

    ready_again :
        (n : ℕ)
        → table_check s (over s t ks (set ds p v.distance) (set ws p v.weight) own) ≡ (Ok tt)
        → length (put (row k v.distance v.weight) both) ≡ t.count + n
        → t.count + n ≤ length t.keys
        → Ready s t ks (set ds p v.distance) (set ws p v.weight) own n
    ready_again n c l f =
        record {
          passed = ready.passed;
          again = c;
          lengths = rw (length-set, length-set) ready.lengths;
          order = ready.order;
          waits = waits_on;
          many = ap length (put_own v.distance v.weight weighs) ∙ l;
          fits = f;
        }

    module _ (r : Entry) (keyed : r.key ≡ k) (near : admitted s k (direct_of r) ≡ Ok (Some m)) where
      fused : fuse s now_table r.key (direct_of r) ≡ answered (fused_near how now_table k m)
      unfolding fuse effect_of fuse_if fused_if
      fused = rw (keyed, ready.again, near)

      module _ (a : Result Fused Refusal) (said : Said a) where
        stores :
            within million v.distance ≡ true
            → fuse s now_table r.key (direct_of r) ≡ outcome a (over s t ks (set ds p v.distance) (set ws p v.weight) own)
        stores b = fused ∙ said ∙ rw b

        -- an answer that is no refusal lets the batch go on
        goes_on :
            ((i : ℕ) (u : Table) (rest : BatchEnd) → stop_or a i u rest ≡ rest)
            → within million v.distance ≡ true
            → (i : ℕ) (rs : List Entry)
            → batch_from s i now_table (r ∷ rs) ≡ batch_from s (suc i) (over s t ks (set ds p v.distance) (set ws p v.weight) own) rs
        unfolding batch_from
        goes_on lets b i rs =
            ap (λ (o : Outcome). stop_or o.answer i o.left (batch_from s (suc i) o.left rs)) (stores b) ∙ lets i _ _

        passes : within million v.distance ≡ true → table_check s (over s t ks (set ds p v.distance) (set ws p v.weight) own) ≡ (Ok tt)
        passes b =
            ap (λ (o : Outcome). table_check s o.left) (sym (stores b)) ∙ fuse_keeps s now_table r.key (direct_of r) ready.again

        ends_there :
            within million v.distance ≡ false
            → (i : ℕ) (rs : List Entry)
            → batch_from s i now_table (r ∷ rs) ≡ batch_end (Err (refused_reading TooLarge i)) now_table
        unfolding batch_from stop_or
        ends_there b i rs =
            let e : fuse s now_table r.key (direct_of r) ≡ outcome (Err TooLarge) now_table = fused ∙ said ∙ rw b in
            ap (λ (o : Outcome). stop_or o.answer i o.left (batch_from s (suc i) o.left rs)) e

      -- every case of a near reading
      pub near_left :
          (spare : Bool)
          → (spare ≡ true → t.count + added < length t.keys)
          → (step : Result Owned Refusal) (ds' ws' : List Float)
          → Placed how ds ws p spare m step ds' ws'
          → StepLeft s t ks ds ws own added r step ds' ws'
      unfolding Placed StepLeft stop_or
      near_left spare room (Ok Owned.Far) ds' ws' h = absurd h
      near_left spare room (Ok Owned.Changed) ds' ws' h =
          let said = said_stands h.0 in
          let c = h.1 in
          rw (c.1, c.2) (
            goes_on (Ok Fused.Changed) said (λ i u rest. refl) c.0,
            ready_again added (passes (Ok Fused.Changed) said c.0) (stands_many h.0 v.distance v.weight ∙ ready.many)
                ready.fits,
          )
      near_left spare room (Ok Owned.Added) ds' ws' h =
          let said = said_waits h.0 (room h.1) in
          let c = h.2 in
          rw (c.1, c.2) (
            goes_on (Ok Fused.New) said (λ i u rest. refl) c.0,
            ready_again (suc added) (passes (Ok Fused.New) said c.0)
                (longer (row k v.distance v.weight) both (waiting h.0)
                ∙ ap suc ready.many
                ∙ sym (add-suc t.count added)) (omega (arith, room h.1)),
          )
      near_left spare room (Ok Owned.Unknown) ds' ws' h = h
      near_left spare room (Err why) ds' ws' h = (rw h.2 (told h.4), h.0, h.1)
        where
          told :
              (standing most (get_or ws p nan) ≡ true) ⊎ (spare ≡ true)
              → (i : ℕ) (rs : List Entry)
              → batch_from s i now_table (r ∷ rs) ≡ batch_end (Err (refused_reading TooLarge i)) now_table
          told (inl e) = ends_there (Ok Fused.Changed) (said_stands e) h.3
          told (inr e) = by_standing (standing most (get_or ws p nan)) refl
            where
              by_standing :
                  (b : Bool)
                  → standing most (get_or ws p nan) ≡ b
                  → (i : ℕ) (rs : List Entry)
                  → batch_from s i now_table (r ∷ rs) ≡ batch_end (Err (refused_reading TooLarge i)) now_table
              by_standing true q = ends_there (Ok Fused.Changed) (said_stands q) h.3
              by_standing false q = ends_there (Ok Fused.New) (said_waits q (room e)) h.3
