-- Laws of standing in a list, of order, and of lists made of lists.
-- Assumes nothing.
use Prim.Native.Nat.{ℕ, zero, suc, ◌<◌, ◌≤◌, zero-le, suc-le-suc}
use native.Mathlib.Nat.{le_of_suc-le-suc, not-suc-le-zero}
use lib.ListN.{length, get_or}
use mathlib.Core.Path.{◌≡◌, refl, sym, ap, ◌∙◌, subst}
use mathlib.Core.Logic.{◌⊎◌, inl, inr, ⊎_elim}
use mathlib.Core.Bool.{Bool, true, false, cond, false≢true}
use mathlib.Core.List.Memᴰ
use mathlib.Core.List.{List, [], ◌∷◌, ◌++◌, map}
use Rattle.lists.specs.Lists.{◌∈◌, Ordered, Distinct, Ahead, kept, joined}

-- ---- who stands in a list

-- a list with y in front of it where a test passes
module _ {A : Type 0} where
  pub front_in : (b : Bool) (y : A) (l : List A) {x : A} → x ∈ cond b (y ∷ l) l → ((b ≡ true) × (x ≡ y)) ⊎ (x ∈ l)
  front_in true y l m = ⊎_elim (λ e. inl (refl, e)) (λ t. inr t) (Memᴰ.cases_cons m)
  front_in false y l m = inr m

  pub in_front_lem : (b : Bool) (y : A) (l : List A) {x : A} → b ≡ true → x ≡ y → x ∈ cond b (y ∷ l) l
  in_front_lem true y l p e = Memᴰ.head e
  in_front_lem false y l p e = absurd (false≢true p)

  pub in_behind : (b : Bool) (y : A) (l : List A) {x : A} → x ∈ l → x ∈ cond b (y ∷ l) l
  in_behind true y l m = Memᴰ.tail m
  in_behind false y l m = m

  pub front_ordered : (R : A → A → Type 0) (b : Bool) (y : A) (l : List A) → ((x : A) → x ∈ l → R y x) → Ordered R l → Ordered R (cond b (y ∷ l) l)
  unfolding Ordered
  front_ordered R true y l h o = (h, o)
  front_ordered R false y l h o = o

module _ {A : Type 0} (f : A → Bool) where
  -- one that is kept stands in the list and passes
  pub kept_in : (l : List A) {x : A} → x ∈ kept f l → (x ∈ l) × (f x ≡ true)
  unfolding kept
  kept_in [] m = absurd (Memᴰ.not-nil m)
  kept_in (y ∷ ys) {x} m =
      ⊎_elim (λ p. (Memᴰ.head p.1, ap f p.1 ∙ p.0)) (λ t. let r = kept_in ys t in (Memᴰ.tail r.0, r.1))
      (front_in (f y) y (kept f ys) m)

  -- one that stands in the list and passes is kept
  pub in_kept : (l : List A) {x : A} → x ∈ l → f x ≡ true → x ∈ kept f l
  unfolding kept
  in_kept [] m p = absurd (Memᴰ.not-nil m)
  in_kept (y ∷ ys) {x} m p =
      ⊎_elim (λ e. in_front_lem (f y) y (kept f ys) (ap f (sym e) ∙ p) e) (λ t. in_behind (f y) y (kept f ys) (in_kept ys t p)) (Memᴰ.cases_cons m)

module _ {A B : Type 0} (f : A → B) where
  pub map_in : (l : List A) {y : B} → y ∈ map f l → (x : A) × (x ∈ l) × (y ≡ f x)
  map_in [] m = absurd (Memᴰ.not-nil m)
  map_in (x ∷ xs) {y} m =
      ⊎_elim (λ e. (x, Memᴰ.head refl, e)) (λ t. let r = map_in xs t in (r.0, Memᴰ.tail r.1, r.2)) (Memᴰ.cases_cons m)

  pub in_map : (l : List A) {x : A} → x ∈ l → f x ∈ map f l
  in_map [] m = absurd (Memᴰ.not-nil m)
  in_map (z ∷ zs) m = ⊎_elim (λ e. Memᴰ.head (ap f e)) (λ t. Memᴰ.tail (in_map zs t)) (Memᴰ.cases_cons m)

module _ {A B : Type 0} (f : A → List B) where
  pub joined_in : (l : List A) {y : B} → y ∈ joined f l → (x : A) × (x ∈ l) × (y ∈ f x)
  unfolding joined
  joined_in [] m = absurd (Memᴰ.not-nil m)
  joined_in (x ∷ xs) {y} m =
      ⊎_elim (λ h. (x, Memᴰ.head refl, h)) (λ t. let r = joined_in xs t in (r.0, Memᴰ.tail r.1, r.2))
      (Memᴰ.append_cases (f x) m)

  pub in_joined : (l : List A) {x : A} {y : B} → x ∈ l → y ∈ f x → y ∈ joined f l
  unfolding joined
  in_joined [] m h = absurd (Memᴰ.not-nil m)
  in_joined (z ∷ zs) m h =
      ⊎_elim (λ e. Memᴰ.append_left (joined f zs) (rw e at h)) (λ t. Memᴰ.append_right (f z) (in_joined zs t h)) (Memᴰ.cases_cons m)

-- what stands at a place
pub at_in : {A : Type 0} (l : List A) (d : A) (i : ℕ) → i < length l → get_or l i d ∈ l
at_in [] d i h = absurd (not-suc-le-zero h)
at_in (x ∷ xs) d zero h = Memᴰ.head refl
at_in (x ∷ xs) d (suc i) h = Memᴰ.tail (at_in xs d i (le_of_suc-le-suc h))

-- ---- order

module _ {A : Type 0} (R S : A → A → Type 0) where
  -- one order says another, of the elements of a list
  pub ordered_weaken : (l : List A) → ((x y : A) → x ∈ l → y ∈ l → R x y → S x y) → Ordered R l → Ordered S l
  unfolding Ordered
  ordered_weaken [] h o = tt
  ordered_weaken (x ∷ xs) h o = (
    (λ y m. h x y (Memᴰ.head refl) (Memᴰ.tail m) (o.0 y m)),
    ordered_weaken xs (λ u v p q r. h u v (Memᴰ.tail p) (Memᴰ.tail q) r) o.1,
  )

module _ {A : Type 0} (R : A → A → Type 0) where
  pub kept_ordered : (f : A → Bool) (l : List A) → Ordered R l → Ordered R (kept f l)
  unfolding Ordered kept
  kept_ordered f [] o = tt
  kept_ordered f (x ∷ xs) o = front_ordered R (f x) x (kept f xs) (λ y m. o.0 y (kept_in f xs m).0) (kept_ordered f xs o.1)

  pub append_ordered : (l m : List A) → Ordered R l → Ordered R m → ((x y : A) → x ∈ l → y ∈ m → R x y) → Ordered R (l ++ m)
  unfolding Ordered
  append_ordered [] m o q h = q
  append_ordered (x ∷ xs) m o q h = (
    (λ y t. ⊎_elim (λ i. o.0 y i) (λ j. h x y (Memᴰ.head refl) j) (Memᴰ.append_cases xs t)),
    append_ordered xs m o.1 q (λ u v i j. h u v (Memᴰ.tail i) j),
  )

  -- Where no two are R both ways round, a list in order is known by who stands in it.
  pub one_order : ((x y : A) → R x y → R y x → ⊥) → (l m : List A) → Ordered R l → Ordered R m → ((x : A) → x ∈ l → x ∈ m) → ((x : A) → x ∈ m → x ∈ l) → l ≡ m
  unfolding Ordered
  one_order asym [] [] o q to from = refl
  one_order asym [] (y ∷ ys) o q to from = absurd (Memᴰ.not-nil (from y (Memᴰ.head refl)))
  one_order asym (x ∷ xs) [] o q to from = absurd (Memᴰ.not-nil (to x (Memᴰ.head refl)))
  one_order asym (x ∷ xs) (y ∷ ys) o q to from =
      let same : x ≡ y =
      ⊎_elim (λ e. e) (λ i. ⊎_elim (λ e. sym e) (λ j. absurd (asym x y (o.0 y j) (q.0 x i))) (Memᴰ.cases_cons (from y (Memᴰ.head refl))))
      (Memᴰ.cases_cons (to x (Memᴰ.head refl))) in
      let ahead : (z : A) → z ∈ xs → z ∈ ys =
      λ z m.
      ⊎_elim (λ e. let r : R x x = subst (R x) (e ∙ sym same) (o.0 z m) in absurd (asym x x r r)) (λ t. t)
      (Memᴰ.cases_cons (to z (Memᴰ.tail m))) in
      let back : (z : A) → z ∈ ys → z ∈ xs =
      λ z m.
      ⊎_elim (λ e. let r : R y y = subst (R y) (e ∙ same) (q.0 z m) in absurd (asym y y r r)) (λ t. t)
      (Memᴰ.cases_cons (from z (Memᴰ.tail m))) in
      rw (one_order asym xs ys o.1 q.1 ahead back) (ap {B = List A} (λ a. a ∷ ys) same)

module _ {A B : Type 0} (R : B → B → Type 0) where
  pub map_ordered : (f : A → B) (l : List A) → Ordered (λ x y. R (f x) (f y)) l → Ordered R (map f l)
  unfolding Ordered
  map_ordered f [] o = tt
  map_ordered f (x ∷ xs) o = (
    (λ y m. let r = map_in f xs m in rw r.2 (o.0 r.0 r.1)),
    map_ordered f xs o.1,
  )

  -- each part is in order, and what an earlier element gives comes before what a later one gives
  pub joined_ordered : (f : A → List B) (l : List A)
      → ((x : A) → x ∈ l → Ordered R (f x))
      → Ordered (λ x y. (u v : B) → u ∈ f x → v ∈ f y → R u v) l
      → Ordered R (joined f l)
  unfolding Ordered joined
  joined_ordered f [] each o = tt
  joined_ordered f (x ∷ xs) each o =
      append_ordered R (f x) (joined f xs) (each x (Memᴰ.head refl)) (joined_ordered f xs (λ y m. each y (Memᴰ.tail m)) o.1)
      (λ u v i j. let r = joined_in f xs j in o.0 r.0 r.1 u v i r.2)

-- ---- coming after

module _ {A : Type 0} where
  pub ahead_in : (l : List A) {x y : A} → Ahead l x y → (x ∈ l) × (y ∈ l)
  unfolding Ahead
  ahead_in [] h = absurd h
  ahead_in (z ∷ zs) h =
      ⊎_elim (λ p. (Memᴰ.head p.0, Memᴰ.tail p.1)) (λ t. let r = ahead_in zs t in (Memᴰ.tail r.0, Memᴰ.tail r.1)) h

  -- a list is in its own order
  pub ahead_ordered : (l : List A) → Ordered (Ahead l) l
  unfolding Ordered Ahead
  ahead_ordered [] = tt
  ahead_ordered (x ∷ xs) = (
    λ y m. inl (refl, m),
    ordered_weaken (Ahead xs) (λ u v. ((u ≡ x) × (v ∈ xs)) ⊎ Ahead xs u v) xs (λ u v p q r. inr r) (ahead_ordered xs),
  )

  -- where no element stands twice, of two only one comes first
  pub ahead_asym : (l : List A) → Distinct l → (x y : A) → Ahead l x y → Ahead l y x → ⊥
  unfolding Ordered Ahead
  ahead_asym [] d x y h g = h
  ahead_asym (z ∷ zs) d x y (inl p) (inl q) = d.0 x q.1 (sym p.0)
  ahead_asym (z ∷ zs) d x y (inl p) (inr t) = d.0 x (ahead_in zs t).1 (sym p.0)
  ahead_asym (z ∷ zs) d x y (inr s) (inl q) = d.0 y (ahead_in zs s).1 (sym q.0)
  ahead_asym (z ∷ zs) d x y (inr s) (inr t) = ahead_asym zs d.1 x y s t

-- the order of what a list is mapped to, of the list itself
module _ {A B : Type 0} (R : B → B → Type 0) where
  pub unmap_ordered : (f : A → B) (l : List A) → Ordered R (map f l) → Ordered (λ x y. R (f x) (f y)) l
  unfolding Ordered
  unmap_ordered f [] o = tt
  unmap_ordered f (x ∷ xs) o = (λ y m. o.0 (f y) (in_map f xs m), unmap_ordered f xs o.1)

-- an earlier place is R to a later one
pub ordered_at : {A : Type 0} (R : A → A → Type 0) (l : List A) (d : A) → Ordered R l → (i j : ℕ) → i < j → j < length l → R (get_or l i d) (get_or l j d)
unfolding Ordered
ordered_at R [] d o i j h k = absurd (not-suc-le-zero k)
ordered_at R (x ∷ xs) d o zero zero h k = absurd (not-suc-le-zero h)
ordered_at R (x ∷ xs) d o (suc i) zero h k = absurd (not-suc-le-zero h)
ordered_at R (x ∷ xs) d o zero (suc j) h k = o.0 (get_or xs j d) (at_in xs d j (le_of_suc-le-suc k))
ordered_at R (x ∷ xs) d o (suc i) (suc j) h k = ordered_at R xs d o.1 i j (le_of_suc-le-suc h) (le_of_suc-le-suc k)

-- ---- how many

-- a list without one of its elements
without : {B : Type 0} (m : List B) {y : B} → y ∈ m → (m' : List B) × (length m ≡ suc (length m')) × ((z : B) → z ∈ m → (z ≡ y → ⊥) → z ∈ m')
without [] i = absurd (Memᴰ.not-nil i)
without {B} (x ∷ xs) {y} i =
    ⊎_elim
    (λ (e : y ≡ x). (xs, refl, λ z j un. ⊎_elim (λ q. absurd (un (q ∙ sym e))) (λ t. t) (Memᴰ.cases_cons j)))
    (λ (t : y ∈ xs).
    let r = without xs t in
    (x ∷ r.0, ap suc r.1, λ z j un. ⊎_elim (λ q. Memᴰ.head q) (λ s. Memᴰ.tail (r.2 z s un)) (Memᴰ.cases_cons j)))
    (Memᴰ.cases_cons i)

-- Elements that stand for others, no two for the same, are no more than those.
pub no_more : {A B : Type 0} (R : A → B → Type 0) (l : List A) (m : List B)
    → Distinct l
    → ((x : A) → x ∈ l → (y : B) × (y ∈ m) × R x y)
    → ((x x' : A) (y : B) → R x y → R x' y → x ≡ x')
    → length l ≤ length m
unfolding Ordered
no_more R [] m d for one = zero-le
no_more {A} {B} R (x ∷ xs) m d for one =
    let f = for x (Memᴰ.head refl) in
    let w = without m f.1 in
    let rest : (z : A) → z ∈ xs → (y : B) × (y ∈ w.0) × R z y =
    λ z i. let g = for z (Memᴰ.tail i) in
    (g.0, w.2 g.0 g.1 (λ e. d.0 z i (one x z g.0 (subst (R x) (sym e) f.2) g.2)), g.2) in
    subst (λ (k : ℕ). suc (length xs) ≤ k) (sym w.1) (suc-le-suc (no_more R xs w.0 d.1 rest one))
