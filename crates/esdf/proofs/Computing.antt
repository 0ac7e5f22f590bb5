-- The public call: the tests say what the march may build on, and its answer says what the lists hold. Assumes nothing.
use Rattle.std.specs.Prelude.{Ok, Err, Result}
use Rattle.std.specs.Result.{is_err}
use mathlib.Core.Path.{◌≡◌, refl, sym, ap, subst, ◌∙◌}
use mathlib.Core.Bool.{Bool, true, ◌&&◌, false, true≢false, false≢true}
use mathlib.Core.List.{List, [], ◌∷◌}
use Prim.Native.Nat.{ℕ, zero, suc, ◌-◌, ◌<◌, ◌≤◌}
use native.Mathlib.Nat.{not-suc-le-zero, le_of_suc-le-suc}
use native.Mathlib.Omega.{arith}
use borrow.Author.Tests.{eqb-true}
use lib.Dec.{eqb, leb}
use lib.ListN.{length, get_or, take, replicate, length-map}
use lib.Seq.{get_or-take, length-take-le}
use lib.Ieee.{Float, nan, of_bits}
use Rattle.floats.specs.Floats.{zero32, million, is_finite, within, between}
use Rattle.lists.specs.Padding.{padded}
use Rattle.lists.specs.Places.{filled}
use Rattle.lists.proofs.Bools.{and_first, and_second}
use Rattle.lists.proofs.PaddingLaws.{padded_length}
use Rattle.refusals.specs.declared.Refusal.{Refusal}
use Rattle.refusals.specs.declared.Refusal.TheVariants.{BadReading}
use Rattle.search.specs.Keys.{ascending}
use Rattle.table.specs.Table.{Row, Table, table, rows_of, rows, settings_ok, lengths_ok, row_ok, rows_ok, need, check_with}
use Rattle.table.specs.declared.Settings.{Settings}
use Rattle.table.proofs.RowLaws.{lengths_known}
use Rattle.marching.specs.March.{Rooms, rooms, Going, keys_of, distances_of}
use Rattle.marching.specs.Lattice.{march_from}
use Rattle.table.proofs.Checking.{need_passed, sound, with_passed, went_on}
use Rattle.fronts.specs.Fronts.{Fair, rooms_of}
use Rattle.racing.specs.Racing.{Tabled, Blank, Finished}
use Rattle.racing.proofs.Marching.{same_rooms}
use Rattle.racing.proofs.Finishing.{cleared}
use Rattle.ids.specs.Key.{on_lattice}
use Rattle.floats.proofs.Order.{within_finite, between_finite}
use Rattle.table.specs.Rows.{keys_of as table_keys}
use Rattle.table.proofs.Laying.{columns, distances_of as table_distances, weights_of as table_weights}
use Rattle.table.proofs.SettingsLaws.{settings_known, farthest_known}
use Rattle.esdf.specs.Steps.{tidied}
use Rattle.marched.specs.Marched.{pair_ok}
use Rattle.esdf.specs.Compute.{Places, places, march_check, tested, marching, outcome, answer_of, keys_left, distances_left, left, computed}

-- ---- what passed

-- the tests that a march builds on
pub record Tested (s : Settings) (t : Table) (threshold : Float) (fit : Bool) : Type 0 where
  pub settings : settings_ok s ≡ true
  pub lengths : lengths_ok (length t.keys) (length t.distances) (length t.weights) t.count ≡ true
  pub places : fit ≡ true
  pub rows : rows_ok s.max_weight (rows t) ≡ true
  pub order : ascending (take t.count t.keys) ≡ true
  pub reading : is_finite threshold ≡ true

pub tests : (s : Settings) (t : Table) (threshold : Float) (fit : Bool) → march_check s t threshold fit ≡ (Ok tt) → Tested s t threshold fit
unfolding march_check
tests s t threshold fit e =
    let a = went_on (check_with fit s t) (need (is_finite threshold) BadReading (Ok tt)) e in
    let b = with_passed fit s t a.0 in
    let k = sound s t b.1 in
    record {
      settings = k.settings;
      lengths = k.lengths;
      places = b.0;
      rows = k.ranges;
      order = k.order;
      reading = (need_passed (is_finite threshold) BadReading (Ok tt) a.1).0;
    }

-- each row is in its ranges
rows_at : (most : Float) (rs : List Row) → rows_ok most rs ≡ true → (i : ℕ) → i < length rs
    → row_ok most (get_or (table_keys rs) i 0) (get_or (table_distances rs) i nan) (get_or (table_weights rs) i nan) ≡ true
unfolding rows_ok
rows_at most [] h i l = absurd (not-suc-le-zero l)
rows_at most (r ∷ rs) h zero l = and_first (row_ok most r.key r.distance r.weight) _ h
rows_at most (r ∷ rs) h (suc i) l = rows_at most rs (and_second (row_ok most r.key r.distance r.weight) _ h) i (le_of_suc-le-suc l)

-- the table's keys ascend and are on the lattice, its distances are finite
pub tested_table :
    (s : Settings) (ks : List ℕ) (ds ws : List Float) (n : ℕ) (threshold : Float) (fit : Bool)
    → march_check s (table ks ds ws n) threshold fit ≡ (Ok tt)
    → Tabled (table ks ds ws n)
unfolding of_bits
tested_table s ks ds ws n threshold fit e =
    let h = tests s (table ks ds ws n) threshold fit e in
    let l = lengths_known (length ks) (length ds) (length ws) n h.lengths in
    record {
      lent = record { fits = l.0; distances = l.1; weights = l.2; ascends = h.order };
      lattice = λ i k. and_first (on_lattice (get_or ks i 0)) _ (at h l i k);
      finite = λ i k. within_finite million (get_or ds i nan) finite_million
          (and_first (within million (get_or ds i nan)) _ (and_second (on_lattice (get_or ks i 0)) _ (at h l i k)));
    }
  where
    finite_million : is_finite million ≡ true
    finite_million = refl

    at : Tested s (table ks ds ws n) threshold fit
        → (n ≤ length ks) × (length ds ≡ length ks) × (length ws ≡ length ks) × (length ks ≤ 65536)
        → (i : ℕ)
        → i < n
        → row_ok s.max_weight (get_or ks i 0) (get_or ds i nan) (get_or ws i nan) ≡ true
    at h l i k =
        let c = columns ks ds ws n l.1 l.2 in
        let m : length (rows_of ks ds ws n) ≡ n = sym (length-map (rows_of ks ds ws n) (λ (r : Row). r.key)) ∙ ap length c.0 ∙ length-take-le n ks l.0 in
        let r = rows_at s.max_weight (rows_of ks ds ws n) h.rows i (rw m k) in
        rw (c.0, c.1, c.2, get_or-take n ks i 0 k, get_or-take n ds i nan k, get_or-take n ws i nan k) at r

-- the maximum distance is finite and at least 0
pub tested_course : (s : Settings) (t : Table) (threshold : Float) (fit : Bool) → march_check s t threshold fit ≡ (Ok tt)
    → Fair (record { size = s.voxel_size.0; most = s.max_distance.0 })
unfolding of_bits
tested_course s t threshold fit e =
    let f = (settings_known s (tests s t threshold fit e).settings).farthest in
    let k = farthest_known s.max_distance.0 f in
    let b = and_first (between zero32 million s.max_distance.0) _ f in
    record { least = k.0; finite = between_finite zero32 million s.max_distance.0 refl refl b }

-- the lists of a set are equally long
sets_equal : (a b c d : ℕ) → pair_ok a b && pair_ok c d ≡ true → (b ≡ a) × (c ≡ d)
sets_equal a b c d h = (
  sym (eqb-true a b (and_first (eqb a b) (leb a 1048576) (and_first (pair_ok a b) (pair_ok c d) h))),
  eqb-true c d (and_first (eqb c d) (leb c 1048576) (and_second (pair_ok a b) (pair_ok c d) h)),
)

-- ---- the lists

whole_room : (y : ℕ) → y - 0 ≡ y
whole_room y = omega arith

five :
    {r r' : Result (ℕ × ℕ) Refusal} {ks ks' : List ℕ} {ds ds' es es' : List Float} {cs cs' : List ℕ}
    → r ≡ r'
    → ks ≡ ks'
    → ds ≡ ds'
    → es ≡ es'
    → cs ≡ cs'
    → outcome r ks ds es cs ≡ outcome r' ks' ds' es' cs'
five a b c d e = cc

-- what a march finished, tidied, is what it leaves
module _ (p : Places) (g : Going) (ks : List ℕ) (ds es : List Float) (cs : List ℕ) (lk : length ks ≡ p.keys)
    (ld : length ds ≡ p.distances) (le : length es ≡ p.estimates) (lc : length cs ≡ p.cells) where
  leaves : (r : Result (ℕ × ℕ) Refusal) → Finished g r ks ds es cs → outcome r (tidied 0 r ks) (tidied zero32 r ds) (tidied zero32 r es) (tidied 0 r cs) ≡ left p g
  unfolding Finished tidied left answer_of keys_left distances_left padded
  leaves (Err why) f =
      rw f (five refl (ap (λ (i : ℕ). replicate i 0) lk) (ap (λ (i : ℕ). replicate i zero32) ld)
      (ap (λ (i : ℕ). replicate i zero32) le) (ap (λ (i : ℕ). replicate i 0) lc))
  leaves (Ok (n, k)) f =
      let s = f.0 in
      let h = f.1.1.1 in
      let b : length ds ≡ length ks =
      ap length h.distances
      ∙ padded_length zero32 (length ks) (distances_of s.stored) (rw length-map (let i = h.count in let j = h.fits in omega arith)) in
      let e : length es ≡ length cs = ap length h.estimates ∙ padded_length zero32 (length cs) [] (omega arith) in
      rw f.1.0
      (five
      (ap (λ (i : ℕ). Ok (i, k)) h.count ∙ ap ((λ a. Ok ((length s.stored), a))) (sym f.1.1.0))
      (h.keys ∙ ap (λ (i : ℕ). padded 0 i (keys_of s.stored)) lk)
      (h.distances ∙ ap (λ (i : ℕ). padded zero32 i (distances_of s.stored)) (sym b ∙ ld))
      (h.estimates ∙ ap (λ (i : ℕ). replicate i zero32) (whole_room (length cs) ∙ sym e ∙ le))
      (h.cells ∙ ap (λ (i : ℕ). replicate i 0) (whole_room (length cs) ∙ lc)))

  pub tidied_left :
      (r : Result (ℕ × ℕ) Refusal) (ks' : List ℕ) (ds' es' : List Float) (cs' : List ℕ)
      → Finished g r ks ds es cs
      → ks' ≡ tidied 0 r ks
      → ds' ≡ tidied zero32 r ds
      → es' ≡ tidied zero32 r es
      → cs' ≡ tidied 0 r cs
      → outcome r ks' ds' es' cs' ≡ left p g
  tidied_left r ks' ds' es' cs' f a b c d = five refl a b c d ∙ leaves r f

-- ---- the code's steps

-- a march that is done leaves a list, one that is refused wipes it
pub stays : {A : Type 0} (v : A) (r : Result (ℕ × ℕ) Refusal) (l : List A) → is_err r ≡ false → l ≡ tidied v r l
unfolding tidied
stays v (Ok (n, t)) l e = refl
stays v (Err why) l e = absurd (true≢false e)

pub wiped : {A : Type 0} (v : A) (r : Result (ℕ × ℕ) Refusal) (l l' : List A) → is_err r ≡ true → l' ≡ filled v l → l' ≡ tidied v r l
unfolding tidied
wiped v (Ok (n, t)) l l' e f = absurd (false≢true e)
wiped v (Err why) l l' e f = f

module _ (verdict : Result (Unit {0}) Refusal) (g : Going) (ks : List ℕ) (ds es : List Float) (cs : List ℕ) where
  -- a verdict that refuses is the answer
  pub refused_first : {why : Refusal} → verdict ≡ Err why → Finished (tested verdict g) (Err why) ks ds es cs
  unfolding Finished tested
  refused_first e = rw e

  -- another lets the march begin
  pub passed_first : (r : Result (ℕ × ℕ) Refusal) → verdict ≡ (Ok tt) → Finished g r ks ds es cs → Finished (tested verdict g) r ks ds es cs
  unfolding tested
  passed_first r e f = rw e f

module _ (s : Settings) (tks : List ℕ) (tds tws : List Float) (n : ℕ) (threshold : Float) where
  -- what the march needs, where the tests pass
  pub may_march :
      (fit : Bool) (ks : List ℕ) (ds es : List Float) (cs : List ℕ)
      → (fit ≡ true → Blank ks ds es cs)
      → march_check s (table tks tds tws n) threshold fit ≡ (Ok tt)
      → (Tabled (table tks tds tws n) × Fair (record { size = s.voxel_size.0; most = s.max_distance.0 })) × Blank ks ds es cs
  may_march fit ks ds es cs b h = (
    (tested_table s tks tds tws n threshold fit h, tested_course s (table tks tds tws n) threshold fit h),
    b (tests s (table tks tds tws n) threshold fit h).places,
  )

  module _ (ks₀ cs₀ : List ℕ) (ds₀ es₀ : List Float) where
    -- cleared lists hold nothing
    pub blank_if :
        (ks cs : List ℕ) (ds es : List Float) {fit : Bool}
        → fit ≡ pair_ok (length ks₀) (length ds₀) && pair_ok (length es₀) (length cs₀)
        → ks ≡ filled 0 ks₀
        → ds ≡ filled zero32 ds₀
        → es ≡ filled zero32 es₀
        → cs ≡ filled 0 cs₀
        → fit ≡ true
        → Blank ks ds es cs
    blank_if ks cs ds es p a b c d e =
        let k = sets_equal (length ks₀) (length ds₀) (length es₀) (length cs₀) (sym p ∙ e) in cleared ks₀ cs₀ ds₀ es₀ ks cs ds es k.0 k.1 a b c d

    -- the whole call
    pub march_left :
        {fit : Bool} (ks₁ cs₁ : List ℕ)
        → fit ≡ pair_ok (length ks₀) (length ds₀) && pair_ok (length es₀) (length cs₀)
        → length ks₁ ≡ length ks₀
        → length cs₁ ≡ length cs₀
        → (ks : List ℕ) (ds es : List Float) (cs : List ℕ)
        → length ks ≡ length ks₀
        → length ds ≡ length ds₀
        → length es ≡ length es₀
        → length cs ≡ length cs₀
        → (r : Result (ℕ × ℕ) Refusal)
        → Finished (tested (march_check s (table tks tds tws n) threshold fit)
        (march_from s.voxel_size.0 s.max_distance.0 (rooms_of ks₁ cs₁) threshold (rows_of tks tds tws n))) r ks ds es cs
        → (ks' : List ℕ) (ds' es' : List Float) (cs' : List ℕ)
        → ks' ≡ tidied 0 r ks
        → ds' ≡ tidied zero32 r ds
        → es' ≡ tidied zero32 r es
        → cs' ≡ tidied 0 r cs
        → outcome r ks' ds' es' cs' ≡ computed s (table tks tds tws n) threshold (places (length ks₀) (length ds₀) (length es₀) (length cs₀))
    unfolding marching
    march_left {fit = fit} ks₁ cs₁ p i j ks ds es cs lk ld le lc r f ks' ds' es' cs' a b c d =
        let l = places (length ks₀) (length ds₀) (length es₀) (length cs₀) in
        let g : Finished (marching s (table tks tds tws n) threshold l) r ks ds es cs =
        subst (λ (x : Bool).
        Finished (tested (march_check s (table tks tds tws n) threshold x)
        (march_from s.voxel_size.0 s.max_distance.0 (rooms (length ks₀) (length cs₀)) threshold (rows_of tks tds tws n))) r ks ds es cs) p
        (subst (λ (m : Rooms).
        Finished (tested (march_check s (table tks tds tws n) threshold fit)
        (march_from s.voxel_size.0 s.max_distance.0 m threshold (rows_of tks tds tws n))) r ks ds es cs)
        (same_rooms (rooms (length ks₀) (length cs₀)) ks₁ cs₁ i j) f) in
        tidied_left l (marching s (table tks tds tws n) threshold l) ks ds es cs lk ld le lc r ks' ds' es' cs' g a b c d
