-- Marks are no more than the cells that have one. Assumes nothing.
use Rattle.std.specs.Prelude.{None}
use mathlib.Core.Path.{◌≡◌, refl, sym, ap, ◌∙◌}
use mathlib.Core.Bool.{Bool, true, false, cond, not}
use mathlib.Core.List.Memᴰ
use mathlib.Core.List.{List, [], ◌∷◌, ◌++◌}
use mathlib.Core.Logic.{⊎_elim}
use Prim.Native.Nat.{ℕ, zero, suc, ◌+◌, ◌<◌, ◌≤◌, zero-le, suc-le-suc}
use native.Mathlib.Nat.{suc-ne-zero}
use native.Mathlib.Omega.{arith}
use borrow.Author.Tests.{eqb-true, eqb-false, ne_eqb}
use lib.Dec.{eqb}
use lib.ListN.{length, get_or, length-append, length-map}
use lib.Ieee.{Float}
use Rattle.lists.specs.Lists.{◌∈◌, Distinct, Ordered, kept}
use Rattle.lists.proofs.Bools.{cases}
use Rattle.lists.proofs.ListLaws.{kept_in, no_more}
use Rattle.marks.specs.Marks.{label, look, occupied}
use Rattle.marks.proofs.Keeping.{kept_once, kept_found, value_at_lem}
use Rattle.search.specs.Keys.{member}
use Rattle.marching.specs.March.{MarchedRow, keys_of, is_stored}
use Rattle.marching.proofs.Spreading.{member_in, no_distance}
use Rattle.hearing.specs.Hearing.{or_waits, Marked}

-- ---- the key of a label

-- the key that a label stands for
abbrev pub key_for : ℕ → ℕ
key_for x = cond (eqb x 1) 0 x

pub key_for_lem : (x : ℕ) → (x ≡ 0 → ⊥) → label (key_for x) ≡ x
unfolding label
key_for_lem x n =
    cases (λ (b : Bool). eqb x 1 ≡ b → cond (eqb (cond b 0 x) 0) 1 (cond b 0 x) ≡ x) (eqb x 1)
    (λ _ e. sym (eqb-true x 1 e)) (λ _ e. rw (ne_eqb x 0 n)) refl

pub key_real : (x : ℕ) → key_for x ≡ 1 → ⊥
key_real x e =
    cases (λ (b : Bool). eqb x 1 ≡ b → cond b 0 x ≡ 1 → ⊥) (eqb x 1)
    (λ _ _ q. omega arith) (λ _ n q. eqb-false x 1 n q) refl e

-- ---- the labels that stand in a list

abbrev labels : List ℕ → List ℕ
labels ks = kept (λ (x : ℕ). not (eqb x 0)) ks

labels_counted : (ks : List ℕ) → length (labels ks) ≡ occupied ks
unfolding kept occupied
labels_counted [] = refl
labels_counted (x ∷ xs) =
    cases (λ (b : Bool). length (cond (not b) (x ∷ labels xs) (labels xs)) ≡ cond b (occupied xs) (suc (occupied xs))) (eqb x 0)
    (λ _. labels_counted xs) (λ _. ap suc (labels_counted xs))

-- what stands in a list stands at a place
pub in_at : (ks : List ℕ) {x : ℕ} → x ∈ ks → (i : ℕ) × ((i < length ks) × (get_or ks i 0 ≡ x))
in_at [] m = absurd (Memᴰ.not-nil m)
in_at (y ∷ ys) {x} m =
    ⊎_elim (λ (e : x ≡ y). (zero, (suc-le-suc zero-le, sym e)))
    (λ t. let r = in_at ys t in (suc r.0, (suc-le-suc r.1.0, r.1.1)))
    (Memᴰ.cases_cons m)

labels_distinct : (ks : List ℕ) → ((i j : ℕ) → (get_or ks i 0 ≡ 0 → ⊥) → get_or ks i 0 ≡ get_or ks j 0 → i ≡ j) → Distinct (labels ks)
unfolding kept Ordered
labels_distinct [] once = tt
labels_distinct (x ∷ xs) once =
    let rest = labels_distinct xs (λ i j n e. let s = once (suc i) (suc j) n e in omega arith) in
    cases (λ (b : Bool). eqb x 0 ≡ b → Distinct (cond (not b) (x ∷ labels xs) (labels xs))) (eqb x 0) (λ _ _. rest)
    (λ _ n. (apart (eqb-false x 0 n), rest)) refl
  where
    apart : (x ≡ 0 → ⊥) → (y : ℕ) → y ∈ labels xs → x ≡ y → ⊥
    apart n y m e =
        let at = in_at xs (kept_in (λ (z : ℕ). not (eqb z 0)) xs m).0 in
        suc-ne-zero at.0 (sym (once zero (suc at.0) n (e ∙ sym at.1.1)))

-- ---- marks

module _ (rs : List MarchedRow) (ws : List ℕ) (ks : List ℕ) (ds : List Float) (h : Marked rs ws ks ds) where
  -- a label is that of a stored cell, or of one with the mark of a waiting one
  owned : (i : ℕ) → (get_or ks i 0 ≡ 0 → ⊥) → key_for (get_or ks i 0) ∈ keys_of rs ++ ws
  unfolding or_waits
  owned i n = go (is_stored k rs) (member k ws) refl refl
    where
      k : ℕ
      k = key_for (get_or ks i 0)

      go : (a b : Bool) → is_stored k rs ≡ a → member k ws ≡ b → k ∈ keys_of rs ++ ws
      go true b p q = Memᴰ.append_left ws (member_in k (keys_of rs) p)
      go false true p q = Memᴰ.append_right (keys_of rs) (member_in k ws q)
      go false false p q =
          absurd
          (let l = key_for_lem (get_or ks i 0) n in
          let found = value_at_lem (label k) ks ds i (kept_found ks h.kept (label k) (λ z. n (sym l ∙ z)) i (sym l)) in
          let none_there : look k ks ds ≡ None = h.marks k (key_real (get_or ks i 0)) ∙ rw (no_distance k rs p, q) in
          let o : ◌≡◌ {A = ℕ} 0 1 = cc in
          omega arith)

  -- Option cells and those with the mark of a waiting one are at least the marks.
  pub marks_fit : occupied ks ≤ length rs + length ws
  marks_fit =
      let most =
      no_more (λ (x y : ℕ). label y ≡ x) (labels ks) (keys_of rs ++ ws) (labels_distinct ks (kept_once ks h.kept))
      (λ x m.
      let a = kept_in (λ (z : ℕ). not (eqb z 0)) ks m in
      let at = in_at ks a.0 in
      let n : get_or ks at.0 0 ≡ 0 → ⊥ = λ z. real x a.1 (sym at.1.1 ∙ z) in
      (key_for (get_or ks at.0 0), owned at.0 n, key_for_lem (get_or ks at.0 0) n ∙ at.1.1))
      (λ x x' y p q. sym p ∙ q) in
      let l = labels_counted ks in
      let a = length-append (keys_of rs) ws in
      let b = length-map rs (λ (r : MarchedRow). r.key) in
      omega arith
    where
      real : (x : ℕ) → not (eqb x 0) ≡ true → x ≡ 0 → ⊥
      real x e z = absurd (let o : not (eqb x 0) ≡ false = rw z in let y : ◌≡◌ {A = ℕ} 0 1 = cc in omega arith)
