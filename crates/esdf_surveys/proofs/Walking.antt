-- Loops over rows and over neighbours: what is left says what the whole says. Assumes nothing.
use Rattle.std.specs.Prelude.{Ok, Err, Result}
use mathlib.Core.Path.{◌≡◌, refl, sym, ap, subst, ◌∙◌}
use mathlib.Core.Bool.{Bool, true, false, cond}
use mathlib.Core.List.{List, [], ◌∷◌, ◌++◌}
use Prim.Native.Nat.{ℕ, suc, ◌+◌, ◌-◌, ◌≤◌}
use native.Mathlib.Numerals.{add-one}
use native.Mathlib.Omega.{arith}
use borrow.Author.Tests.{leb-true}
use lib.Dec.{leb}
use lib.ListN.{length, drop, set, replicate, length-map}
use lib.Seq.{sets, length-sets}
use lib.Ieee.{Float, lt, le}
use Rattle.floats.specs.Floats.{zero32, size_of}
use Rattle.lists.specs.Lists.{kept}
use Rattle.lists.specs.Listing.{room_for, count_of, held_for}
use Rattle.lists.specs.Padding.{padded}
use Rattle.lists.specs.Places.{cleared_from}
use Rattle.lists.proofs.Bools.{cases}
use Rattle.lists.proofs.Writing.{sets_front, cleared_whole}
use Rattle.refusals.specs.declared.Refusal.{Refusal}
use Rattle.refusals.specs.declared.Refusal.TheVariants.{NoPlace}
use Rattle.marching.specs.March.{MarchedRow, marched_row, keys_of, distances_of}
use Rattle.esdf_surveys.specs.declared.Tally.{Tally}
use Rattle.esdf_surveys.specs.Statistics.{tallied, tallied_all}
use Rattle.esdf_surveys.specs.Within.{is_within, cells_within, listed_said, within_listed, within_keys, within_distances}
use Rattle.marched.specs.Marched.{MarchedTable, marched_rows}
use Rattle.esdf_surveys.specs.Steps.{PutOne, Put, Counted, Filled}

-- ---- tallies

pub tally_more :
    (t t' : Tally) (r : MarchedRow) (whole : List MarchedRow) (i : ℕ)
    → drop i whole ≡ r ∷ drop (suc i) whole
    → t' ≡ tallied t r.distance
    → tallied_all t (drop i whole) ≡ tallied_all t' (drop (i + 1) whole)
unfolding tallied_all
tally_more t t' r whole i here e =
    ap (tallied_all t) here
    ∙ ap (λ (s : Tally). tallied_all s (drop (suc i) whole)) (sym e)
    ∙ ap (λ (j : ℕ). tallied_all t' (drop j whole)) (sym (add-one i))

pub tally_none : (t : Tally) (whole : List MarchedRow) (i : ℕ) → drop i whole ≡ [] → tallied_all t (drop i whole) ≡ t
unfolding tallied_all
tally_none t whole i e = rw e

pub tally_few : (t : Tally) (d : Float) (i : ℕ) → t.obstacles ≤ i → t.free ≤ i → ((tallied t d).obstacles ≤ i + 1) × ((tallied t d).free ≤ i + 1)
unfolding tallied
tally_few t d i a b =
    cases (λ (x : Bool). (cond x (t.obstacles + 1) t.obstacles ≤ i + 1) × (cond x t.free (t.free + 1) ≤ i + 1)) (lt d zero32)
    (λ e. (omega arith, omega arith)) (λ e. (omega arith, omega arith))

-- ---- rows that are put

module _ (threshold : Float) where
  abbrev pub left : List MarchedRow → ℕ → List MarchedRow
  left rs i = kept (is_within threshold) (drop i rs)

  -- before row i, n rows are put
  pub record Putting (rs : List MarchedRow) (i n : ℕ) (ks₀ : List ℕ) (ds₀ : List Float) (ks : List ℕ) (ds : List Float) : Type 0 where
    pub counts : n + length (left rs i) ≡ length (left rs 0)
    pub keys : sets ks n (keys_of (left rs i)) ≡ sets ks₀ 0 (keys_of (left rs 0))
    pub distances : sets ds n (distances_of (left rs i)) ≡ sets ds₀ 0 (distances_of (left rs 0))

  pub put_begun : (rs : List MarchedRow) (ks : List ℕ) (ds : List Float) → Putting rs 0 0 ks ds ks ds
  put_begun rs ks ds = record { counts = omega arith; keys = refl; distances = refl }

  module _ (rs : List MarchedRow) (i n : ℕ) (ks₀ : List ℕ) (ds₀ : List Float) (ks : List ℕ) (ds : List Float) (at : Putting rs i n ks₀ ds₀ ks ds) where
    pub put_next :
        (r : MarchedRow)
        → drop i rs ≡ r ∷ drop (suc i) rs
        → (n' : ℕ) (ks' : List ℕ) (ds' : List Float)
        → PutOne (is_within threshold r) r.key r.distance n n' ks ds ks' ds'
        → Putting rs (i + 1) n' ks₀ ds₀ ks' ds'
    unfolding kept
    put_next r here n' ks' ds' o =
        subst (λ (j : ℕ). Putting rs j n' ks₀ ds₀ ks' ds') (sym (add-one i))
        (cases (λ (b : Bool).
        is_within threshold r ≡ b
        → PutOne b r.key r.distance n n' ks ds ks' ds'
        → Putting rs (suc i) n' ks₀ ds₀ ks' ds') (is_within threshold r)
        (λ _ w p.
        let l : left rs i ≡ r ∷ left rs (suc i) = rw (here, w) in
        let c = at.counts in
        let d = ap length l in
        let q = p.count in
        record {
          counts = omega arith;
          keys = rw (p.keys, p.count, add-one n) (ap (λ (x : List MarchedRow). sets ks n (keys_of x)) (sym l) ∙ at.keys);
          distances = rw (p.distances, p.count, add-one n) (ap (λ (x : List MarchedRow). sets ds n (distances_of x)) (sym l) ∙ at.distances);
        })
        (λ _ w p.
        let l : left rs i ≡ left rs (suc i) = rw (here, w) in
        record {
          counts = rw (p.count, ← l) at.counts;
          keys = rw (p.keys, p.count, ← l) at.keys;
          distances = rw (p.distances, p.count, ← l) at.distances;
        })
        refl o)

    pub put_few :
        n ≤ i
        → (r : MarchedRow) (n' : ℕ) (ks' : List ℕ) (ds' : List Float)
        → PutOne (is_within threshold r) r.key r.distance n n' ks ds ks' ds'
        → n' ≤ i + 1
    put_few h r n' ks' ds' o =
        rw o.count (cases (λ (b : Bool). cond b (n + 1) n ≤ i + 1) (is_within threshold r) (λ e. omega arith) (λ e. omega arith))

    pub put_done : drop i rs ≡ [] → Put (kept (is_within threshold) rs) n ks₀ ds₀ ks ds
    unfolding kept
    put_done e =
        let l : left rs i ≡ [] = rw e in
        let c = at.counts in
        let d = ap length l in
        record {
          count = omega arith;
          keys = ap (λ (x : List MarchedRow). sets ks n (keys_of x)) (sym l) ∙ at.keys;
          distances = ap (λ (x : List MarchedRow). sets ds n (distances_of x)) (sym l) ∙ at.distances;
        }

module _ (threshold : Float) (k : ℕ) (d x : Float) (e : x ≡ size_of d) where
  -- a row within the threshold is put
  pub put_yes :
      (n : ℕ) (ks : List ℕ) (ds : List Float) (ks' : List ℕ) (ds' : List Float)
      → le x threshold ≡ true
      → ks' ≡ set ks n k
      → ds' ≡ set ds n d
      → PutOne (is_within threshold (marched_row k d)) k d n (n + 1) ks ds ks' ds'
  put_yes n ks ds ks' ds' h a b = let w = rw e at h in record { count = rw w; keys = rw w a; distances = rw w b }

  pub put_no : (n : ℕ) (ks : List ℕ) (ds : List Float) → le x threshold ≡ false → PutOne (is_within threshold (marched_row k d)) k d n n ks ds ks ds
  put_no n ks ds h = let w = rw e at h in record { count = rw w; keys = rw w; distances = rw w }

-- ---- the answer

module _ (verdict : Result (Unit {0}) Refusal) (rs : List MarchedRow) (ks : List ℕ) (ds : List Float) where
  pub fill_refused :
      {why : Refusal}
      → verdict ≡ Err why
      → Filled (listed_said verdict (room_for (length rs) (length ks))) rs (Err why) ks ds ks ds
  unfolding listed_said
  fill_refused e = record { answer = rw e; counted = λ n q. absurd (let z : ◌≡◌ {A = ℕ} 0 1 = cc in omega arith) }

  pub fill_passed :
      (n : ℕ) (r : Result ℕ Refusal) (room : ℕ) (ks' : List ℕ) (ds' : List Float)
      → verdict ≡ (Ok tt)
      → length ds ≡ length ks
      → room ≡ length ks
      → Put rs n ks ds ks' ds'
      → r ≡ room_for n room
      → Filled (listed_said verdict (room_for (length rs) (length ks))) rs r ks ds ks' ds'
  unfolding listed_said
  fill_passed n r room ks' ds' e l m p a =
      let b : r ≡ room_for (length rs) (length ks) = a ∙ ap (λ (x : ℕ). room_for x room) p.count ∙ ap (room_for (length rs)) m in
      record { answer = rw e b; counted = λ i q. fits i (sym b ∙ q) }
    where
      fits : (i : ℕ) → room_for (length rs) (length ks) ≡ Ok i → Counted rs i ks ds ks' ds'
      fits i =
          cases (λ (x : Bool).
          cond x (Ok (length rs)) (Err NoPlace) ≡ Ok i
          → Counted rs i ks ds ks' ds') (leb (length rs) (length ks))
          (λ f g.
          let j : length rs ≡ i = cc in
          let h = leb-true (length rs) (length ks) f in
          let c = p.count in
          record { put = record { count = sym j; keys = p.keys; distances = p.distances }; keys_fit = omega arith; distances_fit = omega arith })
          (λ f g. absurd (let z : ◌≡◌ {A = ℕ} 0 1 = cc in omega arith))

-- a list that is filled by an answer and cleared from its count
module _ {A : Type 0} (v : A) (xs l l' : List A) (long : length l' ≡ length l) where
  pub held_by :
      (r said : Result ℕ Refusal)
      → r ≡ said
      → ((n : ℕ) → r ≡ Ok n → (n ≡ length xs) × (n ≤ length l) × (l' ≡ sets l 0 xs))
      → cleared_from v (count_of r) l' ≡ held_for v said (length l) xs
  unfolding held_for padded
  held_by r (Err why) e c = rw e (cleared_whole v l' ∙ ap (λ (i : ℕ). replicate i v) long)
  held_by r (Ok n) e c =
      let h = c n e in
      let z = h.0 in
      let g = h.1 in
      rw (e, z, h.2, length-sets l 0 xs) (ap (λ (t : List A). t ++ replicate (length l - length xs) v) (sets_front l xs (omega arith)))

module _ (t : MarchedTable) (threshold : Float) (oks : List ℕ) (ods : List Float) (r : Result ℕ Refusal) (oks' : List ℕ) (ods' : List Float)
    (f : Filled (within_listed t threshold (length oks) (length ods)) (cells_within threshold (marched_rows t)) r oks ods oks' ods') where
  pub within_keys_lem :
      (i : ℕ)
      → length oks' ≡ length oks
      → i ≡ count_of r
      → {out : List ℕ}
      → out ≡ cleared_from 0 i oks'
      → out ≡ within_keys t threshold (length oks) (length ods)
  within_keys_lem i l c e =
      let rs = cells_within threshold (marched_rows t) in
      e ∙ ap (λ (x : ℕ). cleared_from 0 x oks') c
      ∙ held_by 0 (keys_of rs) oks oks' l r (within_listed t threshold (length oks) (length ods)) f.answer
      (λ m g. let h = f.counted m g in (h.put.count ∙ sym (length-map rs (λ (y : MarchedRow). y.key)), h.keys_fit, h.put.keys))

  pub within_distances_lem :
      (i : ℕ)
      → length ods' ≡ length ods
      → i ≡ count_of r
      → {out : List Float}
      → out ≡ cleared_from zero32 i ods'
      → out ≡ within_distances t threshold (length oks) (length ods)
  within_distances_lem i l c e =
      let rs = cells_within threshold (marched_rows t) in
      e ∙ ap (λ (x : ℕ). cleared_from zero32 x ods') c
      ∙ held_by zero32 (distances_of rs) ods ods' l r (within_listed t threshold (length oks) (length ods)) f.answer
      (λ m g. let h = f.counted m g in (h.put.count ∙ sym (length-map rs (λ (y : MarchedRow). y.distance)), h.distances_fit, h.put.distances))
