-- Labels that stand on their paths, and the values beside them. Assumes nothing.
use Rattle.std.specs.Prelude.{Ok, Err, Result, None, Option, Some}
use mathlib.Core.Path.{◌≡◌, refl, sym, ap, ◌∙◌}
use mathlib.Core.Bool.{Bool, cond}
use mathlib.Core.List.{List}
use Prim.Native.Nat.{ℕ, zero, suc, ◌<◌, ◌≤◌}
use native.Mathlib.Omega.{arith}
use borrow.Author.Tests.{eqb-true, eqb-false, eq-eqb, ne_eqb, ltb-true, ltb-false}
use lib.Dec.{eqb, ltb}
use lib.ListN.{length, get_or, set, replicate, get_or-eq_default}
use lib.Seq.{get_or-set_same, get_or-set_other}
use lib.Ieee.{Float, nan}
use Rattle.lists.proofs.Bools.{cases}
use Rattle.marks.specs.Marks.{label, Kept, halt, spot_at, standing, spot_of, value_at, look}
use Rattle.marks.proofs.Seeking.{halted_once}

-- ---- labels

pub label_real : (k : ℕ) → label k ≡ 0 → ⊥
unfolding label
label_real k =
    cases (λ (b : Bool). eqb k 0 ≡ b → cond b 1 k ≡ 0 → ⊥) (eqb k 0) (λ _ e f. omega arith) (λ _ e f. eqb-false k 0 e f) refl

-- keys that are not 1 have labels of their own
pub label_own : (j k : ℕ) → (j ≡ 1 → ⊥) → (k ≡ 1 → ⊥) → label j ≡ label k → j ≡ k
unfolding label
label_own j k m n =
    cases (λ (b : Bool). eqb j 0 ≡ b → cond b 1 j ≡ cond (eqb k 0) 1 k → j ≡ k) (eqb j 0)
    (λ _ e.
    cases (λ (b : Bool). eqb k 0 ≡ b → 1 ≡ cond b 1 k → j ≡ k) (eqb k 0) (λ _ f g. eqb-true j 0 e ∙ sym (eqb-true k 0 f))
    (λ _ f g. absurd (n (sym g))) refl)
    (λ _ e.
    cases (λ (b : Bool). eqb k 0 ≡ b → j ≡ cond b 1 k → j ≡ k) (eqb k 0) (λ _ f g. absurd (m g)) (λ _ f g. g) refl)
    refl

-- ---- where a label stands

pub within : (ks : List ℕ) (i : ℕ) → (get_or ks i 0 ≡ 0 → ⊥) → i < length ks
within ks i n =
    cases (λ (b : Bool). ltb i (length ks) ≡ b → i < length ks) (ltb i (length ks)) (λ _ e. ltb-true i (length ks) e)
    (λ _ e. absurd (n (get_or-eq_default ks 0 (ltb-false i (length ks) e)))) refl

pub spot_at_lem : (k : ℕ) (ks : List ℕ) (p : ℕ) → get_or ks p 0 ≡ k → spot_at k ks p ≡ Ok p
unfolding spot_at
spot_at_lem k ks p e = rw (eq-eqb (get_or ks p 0) k e)

pub spot_absent : (k : ℕ) (ks : List ℕ) (p : ℕ) → (get_or ks p 0 ≡ k → ⊥) → spot_at k ks p ≡ Err p
unfolding spot_at
spot_absent k ks p e = rw (ne_eqb (get_or ks p 0) k e)

spot_holds : (k : ℕ) (ks : List ℕ) (p i : ℕ) → spot_at k ks p ≡ Ok i → get_or ks i 0 ≡ k
unfolding spot_at
spot_holds k ks p i =
    cases (λ (b : Bool). eqb (get_or ks p 0) k ≡ b → cond b (Ok p) (Err p) ≡ Ok i → get_or ks i 0 ≡ k) (eqb (get_or ks p 0) k)
    (λ _ e f. let z : p ≡ i = cc in rw z at (eqb-true (get_or ks p 0) k e))
    (λ _ e f. absurd (let o : ◌≡◌ {A = ℕ} 0 1 = cc in omega arith)) refl

spot_ended : (k : ℕ) (ks : List ℕ) (p i : ℕ) → spot_at k ks p ≡ Err i → p ≡ i
unfolding spot_at
spot_ended k ks p i =
    cases (λ (b : Bool). cond b (Ok p) (Err p) ≡ Err i → p ≡ i) (eqb (get_or ks p 0) k)
    (λ e f. absurd (let o : ◌≡◌ {A = ℕ} 0 1 = cc in omega arith)) (λ e f. cc)

pub standing_at : (k : ℕ) (ks : List ℕ) (i : ℕ) → standing k ks ≡ Ok i → get_or ks i 0 ≡ k
standing_at k ks i e = spot_holds k ks (halt k ks) i e

pub standing_ended : (k : ℕ) (ks : List ℕ) (i : ℕ) → standing k ks ≡ Err i → halt k ks ≡ i
standing_ended k ks i e = spot_ended k ks (halt k ks) i e

module _ (ks : List ℕ) (h : Kept ks) where
  -- what stands somewhere is found there
  pub kept_at : (i : ℕ) → (get_or ks i 0 ≡ 0 → ⊥) → standing (get_or ks i 0) ks ≡ Ok i
  kept_at i n =
      rw (halted_once (get_or ks i 0) ks i (within ks i n) (let l : get_or ks i 0 ≤ get_or ks i 0 = omega arith in l) (h i n))
      (spot_at_lem (get_or ks i 0) ks i refl)

  -- no label stands twice
  pub kept_once : (i j : ℕ) → (get_or ks i 0 ≡ 0 → ⊥) → get_or ks i 0 ≡ get_or ks j 0 → i ≡ j
  kept_once i j n e =
      let a = kept_at i n in let b = kept_at j (λ z. n (e ∙ z)) in let c : standing (get_or ks i 0) ks ≡ Ok j = rw e b in cc

  module _ (k : ℕ) (n : k ≡ 0 → ⊥) where
    pub kept_found : (i : ℕ) → get_or ks i 0 ≡ k → standing k ks ≡ Ok i
    kept_found i e = rw e at (kept_at i (λ z. n (sym e ∙ z)))

    -- an absent one stands nowhere
    pub kept_absent : (p : ℕ) → standing k ks ≡ Err p → (i : ℕ) → get_or ks i 0 ≡ k → ⊥
    kept_absent p e i f = let a = kept_found i f in let o : ◌≡◌ {A = ℕ} 0 1 = cc in omega arith

-- ---- values

-- the value of a label
abbrev pub value_of : ℕ → List ℕ → List Float → Option Float
value_of k ks ds = value_at (standing k ks) ds

pub value_at_lem : (k : ℕ) (ks : List ℕ) (ds : List Float) (i : ℕ) → standing k ks ≡ Ok i → value_of k ks ds ≡ Some (get_or ds i nan)
unfolding value_at
value_at_lem k ks ds i e = rw e

pub value_absent : (k : ℕ) (ks : List ℕ) (ds : List Float) (p : ℕ) → standing k ks ≡ Err p → value_of k ks ds ≡ None
unfolding value_at
value_absent k ks ds p e = rw e

-- a label that has a value stands somewhere
pub looked : (k : ℕ) (ks : List ℕ) (ds : List Float) (d : Float) → value_of k ks ds ≡ Some d → (i : ℕ) × ((standing k ks ≡ Ok i) × (get_or ds i nan ≡ d))
unfolding value_at
looked k ks ds d e = go (standing k ks) refl e
  where
    go : (s : Result ℕ ℕ) → standing k ks ≡ s → value_at s ds ≡ Some d → (i : ℕ) × ((standing k ks ≡ Ok i) × (get_or ds i nan ≡ d))
    go (Ok i) f e = (i, (f, cc))
    go (Err i) f e = absurd (let o : ◌≡◌ {A = ℕ} 0 1 = cc in omega arith)

-- one that stands nowhere has none
pub value_none : (k : ℕ) (ks : List ℕ) (ds : List Float) → ((i : ℕ) → get_or ks i 0 ≡ k → ⊥) → value_of k ks ds ≡ None
unfolding value_at
value_none k ks ds n = go (standing k ks) refl
  where
    go : (s : Result ℕ ℕ) → standing k ks ≡ s → value_at s ds ≡ None
    go (Ok i) f = absurd (n i (standing_at k ks i f))
    go (Err i) f = refl

-- the label k stands somewhere, with the value d
abbrev pub StandsWith : ℕ → Float → List ℕ → List Float → Type 0
StandsWith k d ks ds = (q : ℕ) × ((get_or ks q 0 ≡ k) × (get_or ds q nan ≡ d))

module _ (k : ℕ) (n : k ≡ 0 → ⊥) (ks : List ℕ) (ds : List Float) (ks' : List ℕ) (ds' : List Float) (h : Kept ks) (h' : Kept ks') where
  -- one that stands in both lists with the same values, or in none
  pub value_moved : ((d : Float) → StandsWith k d ks ds → StandsWith k d ks' ds') → ((d : Float) → StandsWith k d ks' ds' → StandsWith k d ks ds)
      → value_of k ks' ds' ≡ value_of k ks ds
  value_moved f g = go (standing k ks) refl
    where
      go : (s : Result ℕ ℕ) → standing k ks ≡ s → value_of k ks' ds' ≡ value_of k ks ds
      go (Ok i) e =
          let b = f (get_or ds i nan) (i, (standing_at k ks i e, refl)) in
          value_at_lem k ks' ds' b.0 (kept_found ks' h' k n b.0 b.1.0) ∙ ap Some b.1.1 ∙ sym (value_at_lem k ks ds i e)
      go (Err p) e =
          let o = kept_absent ks h k n p e in
          value_none k ks' ds' (λ i x. let b = g (get_or ds' i nan) (i, (x, refl)) in o b.0 b.1.0) ∙ sym (value_none k ks ds o)

  -- one that stands where it stood, with the value that it had
  pub value_same : ((i : ℕ) → get_or ks i 0 ≡ k → (get_or ks' i 0 ≡ k) × (get_or ds' i nan ≡ get_or ds i nan))
      → ((i : ℕ) → get_or ks' i 0 ≡ k → get_or ks i 0 ≡ k)
      → value_of k ks' ds' ≡ value_of k ks ds
  value_same f g =
      value_moved (λ d b. let c = f b.0 b.1.0 in (b.0, (c.0, c.1 ∙ b.1.1)))
      (λ d b. let c = g b.0 b.1.0 in (b.0, (c, sym (f b.0 c).1 ∙ b.1.1)))

-- ---- nothing stands there

blank : (n i : ℕ) → ◌≡◌ {A = ℕ} (get_or (replicate n 0) i 0) 0
blank zero i = refl
blank (suc n) zero = refl
blank (suc n) (suc i) = blank n i

module _ (n : ℕ) (ks : List ℕ) (e : ks ≡ replicate n 0) where
  pub kept_none : Kept ks
  kept_none i h = absurd (h (ap (λ (l : List ℕ). get_or l i 0) e ∙ blank n i))

  pub look_none : (k : ℕ) (ds : List Float) → look k ks ds ≡ None
  look_none k ds = value_none (label k) ks ds (λ i f. label_real k (sym f ∙ ap (λ (l : List ℕ). get_or l i 0) e ∙ blank n i))

-- ---- another value

module _ (k : ℕ) (ks : List ℕ) (ds : List Float) (i : ℕ) (e : spot_of k ks ≡ Ok i) (same : length ds ≡ length ks) (v : Float) where
  pub look_set : look k ks (set ds i v) ≡ Some v
  look_set =
      let l = within ks i (λ z. label_real k (sym (standing_at (label k) ks i e) ∙ z)) in
      value_at_lem (label k) ks (set ds i v) i e ∙ ap Some (get_or-set_same ds i v nan (rw same l))

  pub look_set_other : (j : ℕ) → (label j ≡ label k → ⊥) → look j ks (set ds i v) ≡ look j ks ds
  unfolding value_at
  look_set_other j n = go (spot_of j ks) refl
    where
      go : (s : Result ℕ ℕ) → spot_of j ks ≡ s → value_at s (set ds i v) ≡ value_at s ds
      go (Ok m) f =
          ap Some (get_or-set_other ds i m v nan
          (λ q. n (sym (standing_at (label j) ks m f) ∙ ap (λ (x : ℕ). get_or ks x 0) q ∙ standing_at (label k) ks i e)))
      go (Err m) f = refl

-- ---- the code's search

module _ (k x p : ℕ) (ks : List ℕ) (a : x ≡ label k) (b : p ≡ halt x ks) where
  pub found_at : get_or ks p 0 ≡ x → Ok p ≡ spot_of k ks
  found_at e = rw (← a, ← b) (sym (spot_at_lem x ks p e))

  pub found_absent : (get_or ks p 0 ≡ x → ⊥) → Err p ≡ spot_of k ks
  found_absent n = rw (← a, ← b) (sym (spot_absent x ks p n))

  pub found_outside : length ks ≤ p → Err p ≡ spot_of k ks
  found_outside l = found_absent (λ e. label_real k (sym a ∙ sym e ∙ get_or-eq_default ks 0 l))
