-- Rows by the labels of their keys: in the same order, and only key 0 has another label. Assumes nothing.
use Rattle.std.specs.Prelude.{Some}
use mathlib.Core.Path.{◌≡◌, refl, sym, ap}
use mathlib.Core.Bool.{Bool, true, cond}
use mathlib.Core.List.Memᴰ
use mathlib.Core.List.{List, [], ◌∷◌, ◌++◌, map}
use mathlib.Core.Logic.{⊎_elim}
use Prim.Native.Nat.{ℕ, zero, suc, ◌-◌, ◌<◌}
use native.Mathlib.Omega.{arith}
use borrow.Author.Tests.{ltb-true, lt-ltb, eqb-true, eqb-false, eq-eqb, ne_eqb}
use lib.Dec.{ltb, eqb}
use lib.ListN.{length, replicate}
use lib.Ieee.{Float}
use Rattle.ids.specs.Key.{on_lattice}
use Rattle.lists.specs.Lists.{◌∈◌, All}
use Rattle.lists.specs.Padding.{padded}
use Rattle.lists.proofs.Bools.{cases, and_first, and_second, and_eq}
use Rattle.marks.specs.Marks.{label}
use Rattle.marks.proofs.Keeping.{label_own}
use Rattle.search.specs.Keys.{rises_from, ascending}
use Rattle.marching.specs.March.{MarchedRow, marched_row, keys_of, distances_of, distance_of}
use Rattle.hearing.proofs.Fitting.{key_for}
use Rattle.hearing.proofs.Walking.{real_key}
use Rattle.racing.specs.Racing.{unlabelled}

-- a row by the label of its key
abbrev pub relabel : MarchedRow → MarchedRow
relabel r = marched_row (label r.key) r.distance

abbrev pub labelled : List MarchedRow → List MarchedRow
labelled rs = map relabel rs

-- a key of the lattice comes back
key_back : (k : ℕ) → (k ≡ 1 → ⊥) → key_for (label k) ≡ k
unfolding label
key_back k n =
    cases (λ (b : Bool). eqb k 0 ≡ b → cond (eqb (cond b 1 k) 1) 0 (cond b 1 k) ≡ k) (eqb k 0)
    (λ _ e. sym (eqb-true k 0 e)) (λ _ e. rw (ne_eqb k 1 n)) refl

above_zero : (k l : ℕ) → k < l → label l ≡ l
unfolding label
above_zero k l h = rw (ne_eqb l 0 (λ e. omega arith))

-- the keys above another are their own labels
rest_same : (k : ℕ) (rs : List MarchedRow) → rises_from k (keys_of rs) ≡ true → keys_of (labelled rs) ≡ keys_of rs
unfolding rises_from
rest_same k [] h = refl
rest_same k (r ∷ rs) h =
    let l = ltb-true k r.key (and_first (ltb k r.key) _ h) in
    λ i. above_zero k r.key l i ∷ rest_same r.key rs (and_second (ltb k r.key) _ h) i

below_same : (k l : ℕ) → (l ≡ 1 → ⊥) → k < l → label k < l
unfolding label
below_same k l n h =
    cases (λ (b : Bool). eqb k 0 ≡ b → cond b 1 k < l) (eqb k 0) (λ _ e. let z = eqb-true k 0 e in omega (arith, n_two l n (omega arith))) (λ _ e. h) refl
  where
    n_two : (l : ℕ) → (l ≡ 1 → ⊥) → 0 < l → 1 < l
    n_two l n p = omega (arith, n)

rises_labelled : (k : ℕ) (rs : List MarchedRow) → All (λ (r : MarchedRow). on_lattice r.key ≡ true) rs → rises_from k (keys_of rs) ≡ true
    → rises_from (label k) (keys_of rs) ≡ true
unfolding rises_from All
rises_labelled k [] a h = refl
rises_labelled k (r ∷ rs) a h =
    let l = ltb-true k r.key (and_first (ltb k r.key) _ h) in
    and_eq (lt-ltb (label k) r.key (below_same k r.key (real_key r.key a.0) l)) (and_second (ltb k r.key) _ h)

pub labels_ascend : (rs : List MarchedRow) → All (λ (r : MarchedRow). on_lattice r.key ≡ true) rs → ascending (keys_of rs) ≡ true
    → ascending (keys_of (labelled rs)) ≡ true
unfolding ascending All
labels_ascend [] a h = refl
labels_ascend (r ∷ rs) a h = rw (rest_same r.key rs h) (rises_labelled r.key rs a.1 h)

pub distances_same : (rs : List MarchedRow) → distances_of (labelled rs) ≡ distances_of rs
distances_same [] = refl
distances_same (r ∷ rs) = ap {B = List Float} (λ l. r.distance ∷ l) (distances_same rs)

-- looked up by the label
pub distance_labelled : (k : ℕ) (rs : List MarchedRow) → (k ≡ 1 → ⊥) → All (λ (r : MarchedRow). on_lattice r.key ≡ true) rs
    → distance_of (label k) (labelled rs) ≡ distance_of k rs
unfolding distance_of All
distance_labelled k [] n a = refl
distance_labelled k (r ∷ rs) n a =
    cases (λ (b : Bool). eqb r.key k ≡ b → distance_of (label k) (labelled (r ∷ rs)) ≡ cond b (Some r.distance) (distance_of k rs)) (eqb r.key k)
    (λ _ e. rw (eq-eqb (label r.key) (label k) (ap label (eqb-true r.key k e))))
    (λ _ e.
    rw
    (ne_eqb (label r.key) (label k) (λ q. eqb-false r.key k e (label_own r.key k (real_key r.key a.0) n q)), distance_labelled k rs n a.1))
    refl

-- a row of the labelled ones is one of the rows, labelled
pub labelled_from : (r : MarchedRow) (rs : List MarchedRow) → r ∈ labelled rs → (q : MarchedRow) × ((q ∈ rs) × (r ≡ relabel q))
labelled_from r [] m = absurd (Memᴰ.not-nil m)
labelled_from r (s ∷ rs) m =
    ⊎_elim (λ (e : r ≡ relabel s). (s, (Memᴰ.head refl, e)))
    (λ n. let x = labelled_from r rs n in (x.0, (Memᴰ.tail x.1.0, x.1.1)))
    (Memᴰ.cases_cons m)

-- the first key unlabelled, the keys are the rows' own
pub keys_back : (n : ℕ) (rs : List MarchedRow) → All (λ (r : MarchedRow). on_lattice r.key ≡ true) rs → ascending (keys_of rs) ≡ true
    → unlabelled (padded 0 n (keys_of (labelled rs))) ≡ padded 0 n (keys_of rs)
unfolding unlabelled padded ascending All
keys_back n [] a h = blank (n - 0)
  where
    blank : (m : ℕ) → unlabelled (replicate m 0) ≡ replicate {A = ℕ} m 0
    blank zero = refl
    blank (suc m) = refl
keys_back n (r ∷ rs) a h =
    λ i.
    key_back r.key (real_key r.key a.0) i ∷ (rest_same r.key rs h i ++ replicate (n - suc (length (rest_same r.key rs h i))) 0)
