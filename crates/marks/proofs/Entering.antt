-- A label is put in from the place on where its search ended: what the label in hand has passed, and what each turn leaves. Assumes nothing.
use Rattle.std.specs.Prelude.{Option, Some}
use mathlib.Core.Path.{◌≡◌, refl, sym, ap, ◌∙◌}
use mathlib.Core.Bool.{Bool, cond}
use mathlib.Core.List.{List}
use Prim.Native.Nat.{ℕ, suc, ◌<◌, ◌≤◌}
use native.Mathlib.Omega.{arith}
use borrow.Author.Tests.{eqb-true, eqb-false, eq-eqb, ne_eqb}
use lib.Dec.{eqb}
use lib.ListN.{length, get_or, set, length-set}
use lib.Seq.{get_or-set_same, get_or-set_other}
use lib.Ieee.{Float, nan}
use Rattle.lists.proofs.Bools.{cases}
use Rattle.marks.specs.Marks.{label, home, along, Outranked, Kept, look, occupied, following, MayEnter, Entered}
use Rattle.marks.proofs.Pathing.{home_within, along_onward}
use Rattle.marks.proofs.Seeking.{halt_right}
use Rattle.marks.proofs.Keeping.{label_real, standing_ended, kept_once, kept_found, kept_absent, value_of, value_at_lem, value_same}
use Rattle.marks.proofs.Circling.{occupied_full, occupied_more, here, split, Around, NoneEmpty, filled_begun, filled_set, filled_on}

-- ---- a larger label at a place

-- the value of the label j, where x with the value d is in hand
abbrev in_hand : ℕ → Float → ℕ → List ℕ → List Float → Option Float
in_hand x d j ks ds = cond (eqb j x) (Some d) (value_of j ks ds)

module _ (ks : List ℕ) (i x : ℕ) (l : i < length ks) where
  module _ (h : Kept ks) (less : get_or ks i 0 < x) where
    -- what was larger than a label still is
    raised : (k q : ℕ) → k < get_or ks q 0 → k < get_or (set ks i x) q 0
    raised k q = split ks i x l (λ (r y : ℕ). k < get_or ks r 0 → k < y) q (λ m. omega arith) (λ z m. m)

    pub kept_set : Outranked x ks i → Kept (set ks i x)
    kept_set o p =
        rw (length-set ks i x)
        (split ks i x l (λ (r y : ℕ).
        (y ≡ 0 → ⊥)
        → (q : ℕ)
        → q < length ks
        → along (home y (length ks)) (length ks) q < along (home y (length ks)) (length ks) r
        → y < get_or (set ks i x) q 0)
        p (λ n q m a. raised x q (o q m a)) (λ z n q m a. raised (get_or ks p 0) q (h p n q m a)))

    module _ (ds : List Float) (d : Float) (long : length ds ≡ length ks) (o : Outranked x ks i) (real : x ≡ 0 → ⊥) where
      -- every label but the one that stood there has the value that it had, x the one from the hand
      value_set : (j : ℕ) → (j ≡ 0 → ⊥) → (get_or ks i 0 ≡ j → ⊥) → value_of j (set ks i x) (set ds i d) ≡ in_hand x d j ks ds
      value_set j n m =
          cases (λ (b : Bool). eqb j x ≡ b → value_of j (set ks i x) (set ds i d) ≡ cond b (Some d) (value_of j ks ds)) (eqb j x)
          (λ _ e.
          let z = eqb-true j x e in
          value_at_lem j (set ks i x) (set ds i d) i (kept_found (set ks i x) (kept_set o) j n i (here ks i x l ∙ sym z))
          ∙ ap Some (get_or-set_same ds i d nan (rw long l)))
          (λ _ e.
          let z = eqb-false j x e in
          value_same j n ks ds (set ks i x) (set ds i d) h (kept_set o)
          (λ q f.
          let w : q ≡ i → ⊥ = λ r. m (ap (λ (y : ℕ). get_or ks y 0) (sym r) ∙ f) in
          (get_or-set_other ks i q x 0 w ∙ f, get_or-set_other ds i q d nan w))
          (λ q. split ks i x l (λ (r y : ℕ). y ≡ j → get_or ks r 0 ≡ j) q (λ f. absurd (z (sym f))) (λ w f. f)))
          refl

-- ---- the loop

-- the label x with the value d is in hand at the place i; it came from entering w with the value v at the place p
pub record Carrying (w : ℕ) (v : Float) (p : ℕ) (ks₀ : List ℕ) (ds₀ : List Float) (x : ℕ) (d : Float) (i : ℕ) (ks : List ℕ) (ds : List Float) : Type 0 where
  pub kept : Kept ks
  pub real : x ≡ 0 → ⊥
  pub new : (q : ℕ) → get_or ks q 0 ≡ x → ⊥
  pub passed : Outranked x ks i
  pub same : (j : ℕ) → (j ≡ 0 → ⊥) → in_hand x d j ks ds ≡ in_hand w v j ks₀ ds₀
  pub filled : NoneEmpty p ks₀ i ks

pub carried : (k : ℕ) (v : Float) (p : ℕ) (ks : List ℕ) (ds : List Float) (x : ℕ)
    → x ≡ label k
    → p < length ks
    → MayEnter k p ks ds
    → Carrying (label k) v p ks ds x v p ks ds
carried k v p ks ds x e l h =
    rw e
    (record {
      kept = h.kept;
      real = label_real k;
      new = kept_absent ks h.kept (label k) (label_real k) p h.absent;
      passed = rw (standing_ended (label k) ks p h.absent) at (halt_right (label k) ks).before;
      same = λ j n. refl;
      filled = filled_begun p ks l;
    })

module _ (w : ℕ) (v : Float) (p : ℕ) (ks₀ : List ℕ) (ds₀ : List Float) (x : ℕ) (d : Float) (i : ℕ) (ks : List ℕ) (ds : List Float)
    (a : Around p ks₀ i ks ds) (h : Carrying w v p ks₀ ds₀ x d i ks ds) where
  module _ (j : ℕ) (e : j ≡ following i (length ks)) (n : get_or ks i 0 ≡ 0 → ⊥) where
    -- what is larger at this place and before it on a path is so before the following place
    before : (k : ℕ) (us : List ℕ) → length us ≡ length ks → k < get_or us i 0 → Outranked k us i → Outranked k us j
    before k us f m =
        rw (e, f) (along_onward (home k (length ks)) (length ks) (home_within k (length ks)) (λ (q : ℕ). k < get_or us q 0) i a.inside m)

    -- a larger label keeps its place
    pub goes_on : x ≤ get_or ks i 0 → Carrying w v p ks₀ ds₀ x d j ks ds
    goes_on m =
        record {
          kept = h.kept;
          real = h.real;
          new = h.new;
          passed = before x ks refl (let o = h.new i in omega arith) h.passed;
          same = h.same;
          filled = filled_on p ks₀ i ks ds a j e n h.filled;
        }

    -- a smaller one gives it up and is in hand now
    pub gives_up : get_or ks i 0 < x → Carrying w v p ks₀ ds₀ (get_or ks i 0) (get_or ds i nan) j (set ks i x) (set ds i d)
    gives_up m =
        record {
          kept = kept_set ks i x a.inside h.kept m h.passed;
          real = n;
          new = λ q.
              split ks i x a.inside (λ (r y : ℕ). y ≡ get_or ks i 0 → ⊥) q (λ f. omega arith)
              (λ z f. z (sym (kept_once ks h.kept i q n (sym f))));
          passed =
              before (get_or ks i 0) (set ks i x) (length-set ks i x) (rw (here ks i x a.inside) m)
              (rw (length-set ks i x) (λ q b c. raised ks i x a.inside h.kept m (get_or ks i 0) q (h.kept i n q b c)));
          same = λ k o. other k o ∙ h.same k o;
          filled = filled_set p ks₀ j ks i x n h.real (filled_on p ks₀ i ks ds a j e n h.filled);
        }
      where
        other : (k : ℕ) → (k ≡ 0 → ⊥) → in_hand (get_or ks i 0) (get_or ds i nan) k (set ks i x) (set ds i d) ≡ in_hand x d k ks ds
        other k o =
            cases (λ (b : Bool). cond b (Some (get_or ds i nan)) (value_of k (set ks i x) (set ds i d)) ≡ in_hand x d k ks ds) (eqb k (get_or ks i 0))
            (λ f.
            let z = eqb-true k (get_or ks i 0) f in
            rw (ne_eqb k x (λ y. let g : get_or ks i 0 ≡ x = sym z ∙ y in omega arith))
            (sym (value_at_lem k ks ds i (kept_found ks h.kept k o i (sym z)))))
            (λ f.
            value_set ks i x a.inside h.kept m ds d a.values h.passed h.real k o (λ z. eqb-false k (get_or ks i 0) f (sym z)))

-- where the search ended outside, no place is empty
pub no_list : (k p : ℕ) (ks : List ℕ) (ds : List Float) → length ks ≤ p → MayEnter k p ks ds → length ks ≤ occupied ks
no_list k p ks ds l h =
    occupied_full ks
    (λ q a z.
    let e = standing_ended (label k) ks p h.absent in
    let r = ((halt_right (label k) ks).here q a (rw z (omega arith))).0 in
    omega arith)

-- an empty place takes it
pub entered :
    (k : ℕ) (v : Float) (p : ℕ) (ks₀ : List ℕ) (ds₀ : List Float) (x : ℕ) (d : Float) (i : ℕ) (ks : List ℕ) (ds : List Float)
    → Around p ks₀ i ks ds
    → Carrying (label k) v p ks₀ ds₀ x d i ks ds
    → get_or ks i 0 ≡ 0
    → Entered k v ks₀ ds₀ (set ks i x) (set ds i d)
entered k v p ks₀ ds₀ x d i ks ds a h e =
    record {
      kept = kept_set ks i x a.inside h.kept less h.passed;
      places = length-set ks i x ∙ a.places;
      values = length-set ds i d ∙ a.values ∙ a.places;
      value = now k ∙ rw (eq-eqb (label k) (label k) refl);
      others = λ j n. now j ∙ rw (ne_eqb (label j) (label k) n);
      fuller = occupied_more ks i x a.inside e h.real ∙ ap suc h.filled.count;
    }
  where
    less : get_or ks i 0 < x
    less = let n = h.real in omega arith

    now : (j : ℕ) → look j (set ks i x) (set ds i d) ≡ in_hand (label k) v (label j) ks₀ ds₀
    now j =
        value_set ks i x a.inside h.kept less ds d a.values h.passed h.real (label j) (label_real j)
        (λ z. label_real j (sym z ∙ e))
        ∙ h.same (label j) (label_real j)
