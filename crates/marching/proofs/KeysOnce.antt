-- Keys of which none stands twice, and what putting one in keeps. Assumes nothing.
use mathlib.Core.Path.{◌≡◌, refl, sym, ◌∙◌}
use mathlib.Core.Bool.{Bool, true, false, cond, ◌||◌}
use mathlib.Core.List.{List, [], ◌∷◌, map}
use Prim.Native.Nat.{ℕ, suc, ◌+◌, ◌<◌, ◌≤◌, zero-le}
use native.Mathlib.Omega.{arith}
use borrow.Author.Tests.{lt-ltb, ltb-true, ltb-false, eqb-true, eqb-false, ne_eqb}
use lib.Dec.{ltb, eqb}
use Rattle.search.specs.Keys.{member, rises_from, ascending}
use Rattle.lists.specs.Lists.{insert}
use Rattle.marching.specs.March.{MarchedRow, row_before, keys_of}
use Rattle.lists.proofs.Bools.{cases, and_first, and_second, or_first, or_second, or_swap}

-- no key stands twice
unfoldable pub Once : List ℕ → Type 0
Once [] = Unit
Once (k ∷ ks) = (member k ks ≡ false) × Once ks

module _ {A : Type 0} (before : A → A → Bool) (x : A) where
  module _ (key : A → ℕ) where
    pub insert_member : (k : ℕ) (l : List A) → member k (map key (insert before x l)) ≡ eqb (key x) k || member k (map key l)
    unfolding insert member
    insert_member k [] = refl
    insert_member k (y ∷ ys) =
        cases (λ (b : Bool).
        member k (map key (cond b (y ∷ insert before x ys) (x ∷ (y ∷ ys))))
        ≡ eqb (key x) k || (eqb (key y) k || member k (map key ys))) (before y x)
        (λ e. rw (insert_member k ys) (or_swap (eqb (key y) k) (eqb (key x) k) (member k (map key ys)))) (λ e. refl)

    pub insert_once : (l : List A) → member (key x) (map key l) ≡ false → Once (map key l) → Once (map key (insert before x l))
    unfolding insert member Once
    insert_once [] h o = (refl, tt)
    insert_once (y ∷ ys) h o =
        let d : eqb (key y) (key x) ≡ false = or_first (eqb (key y) (key x)) (member (key x) (map key ys)) h in
        cases (λ (b : Bool). Once (map key (cond b (y ∷ insert before x ys) (x ∷ (y ∷ ys))))) (before y x)
        (λ e. (
          insert_member (key y) ys
              ∙ rw (ne_eqb (key x) (key y) (λ q. eqb-false (key y) (key x) d (sym q))) o.0,
          insert_once ys (or_second (eqb (key y) (key x)) (member (key x) (map key ys)) h) o.1,
        ))
        (λ e. (h, o))

-- ---- ascending keys

pub rises_once : (k : ℕ) (ks : List ℕ) → rises_from k ks ≡ true → (j : ℕ) → j ≤ k → (member j ks ≡ false) × Once ks
unfolding rises_from member Once
rises_once k [] h j g = (refl, tt)
rises_once k (l ∷ ls) h j g =
    let m : k < l = ltb-true k l (and_first (ltb k l) (rises_from l ls) h) in
    let t = and_second (ltb k l) (rises_from l ls) h in (
      rw (ne_eqb l j (λ q. omega arith)) (rises_once l ls t j (omega arith)).0,
      rises_once l ls t l (omega arith),
    )

pub ascending_once : (ks : List ℕ) → ascending ks ≡ true → Once ks
unfolding ascending Once
ascending_once [] h = tt
ascending_once (k ∷ ks) h = rises_once k ks h k (omega arith)

module _ (r : MarchedRow) where
  rises_insert :
      (j : ℕ) (rs : List MarchedRow)
      → j < r.key
      → rises_from j (keys_of rs) ≡ true
      → member r.key (keys_of rs) ≡ false
      → rises_from j (keys_of (insert row_before r rs)) ≡ true
  unfolding insert rises_from member
  rises_insert j [] g h n = rw (lt-ltb j r.key g)
  rises_insert j (s ∷ rs) g h n =
      let f = and_first (ltb j s.key) (rises_from s.key (keys_of rs)) h in
      let t = and_second (ltb j s.key) (rises_from s.key (keys_of rs)) h in
      let d = eqb-false s.key r.key (or_first (eqb s.key r.key) (member r.key (keys_of rs)) n) in
      cases (λ (b : Bool). rises_from j (keys_of (cond b (s ∷ insert row_before r rs) (r ∷ (s ∷ rs)))) ≡ true) (ltb s.key r.key)
      (λ e. rw f (rises_insert s.key rs (ltb-true _ _ e) t (or_second (eqb s.key r.key) (member r.key (keys_of rs)) n)))
      (λ e.
      let l : r.key ≤ s.key = ltb-false s.key r.key e in
      rw (lt-ltb j r.key g, lt-ltb r.key s.key (omega arith)) t)

  pub ascending_insert :
      (rs : List MarchedRow)
      → ascending (keys_of rs) ≡ true
      → member r.key (keys_of rs) ≡ false
      → ascending (keys_of (insert row_before r rs)) ≡ true
  unfolding insert ascending rises_from member
  ascending_insert [] h n = refl
  ascending_insert (s ∷ rs) h n =
      let d = eqb-false s.key r.key (or_first (eqb s.key r.key) (member r.key (keys_of rs)) n) in
      cases (λ (b : Bool). ascending (keys_of (cond b (s ∷ insert row_before r rs) (r ∷ (s ∷ rs)))) ≡ true) (ltb s.key r.key)
      (λ e. rises_insert s.key rs (ltb-true _ _ e) h (or_second (eqb s.key r.key) (member r.key (keys_of rs)) n))
      (λ e.
      let l : r.key ≤ s.key = ltb-false s.key r.key e in
      rw (lt-ltb r.key s.key (omega arith)) h)

-- ---- keys that stand in both of two lists

-- how many of the first list's stand in the second
unfoldable pub both : List ℕ → List ℕ → ℕ
both [] ks = 0
both (w ∷ ws) ks = cond (member w ks) 1 0 + both ws ks

pub both_none : (ks : List ℕ) → both ks [] ≡ 0
unfolding both member
both_none [] = refl
both_none (k ∷ ks) = rw (both_none ks)

-- one that stands in the second no more changes nothing
pub both_insert :
    {A : Type 0} (before : A → A → Bool) (x : A) (key : A → ℕ) (l : List A) (ks : List ℕ)
    → member (key x) ks ≡ false
    → both (map key (insert before x l)) ks ≡ both (map key l) ks
unfolding insert both
both_insert before x key [] ks h = rw h
both_insert before x key (y ∷ ys) ks h =
    cases (λ (b : Bool). both (map key (cond b (y ∷ insert before x ys) (x ∷ (y ∷ ys)))) ks ≡ cond (member (key y) ks) 1 0 + both (map key ys) ks) (before y x)
    (λ e. rw (both_insert before x key ys ks h)) (λ e. rw h (omega arith))

-- the second list gets k
module _ (k : ℕ) (ks ls : List ℕ) (more : (w : ℕ) → member w ls ≡ eqb k w || member w ks) where
  pub both_other : (ws : List ℕ) → member k ws ≡ false → both ws ls ≡ both ws ks
  unfolding both member
  both_other [] h = refl
  both_other (w ∷ ws) h =
      let d = eqb-false w k (or_first (eqb w k) (member k ws) h) in
      rw (more w, ne_eqb k w (λ q. d (sym q)), both_other ws (or_second (eqb w k) (member k ws) h))

  pub both_more : (ws : List ℕ) → Once ws → both ws ls ≤ suc (both ws ks)
  unfolding both Once
  both_more [] o = zero-le
  both_more (w ∷ ws) o =
      rw (more w)
      (cases (λ (b : Bool). cond (b || member w ks) 1 0 + both ws ls ≤ suc (cond (member w ks) 1 0 + both ws ks)) (eqb k w)
      (λ e. let q : both ws ls ≡ both ws ks = both_other ws (rw (eqb-true k w e) o.0) in omega arith)
      (λ e. let q = both_more ws o.1 in omega arith))
