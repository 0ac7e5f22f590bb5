-- Laws of every three of an ascending list of numbers.
-- Assumes nothing.
use Prim.Native.Nat.{ℕ, suc, ◌+◌, ◌<◌}
use native.Mathlib.Omega.{arith}
use mathlib.Core.Path.{◌≡◌, refl, ap, ap₂, ◌∙◌}
use mathlib.Core.Logic.{◌⊎◌, inl, inr, ⊎_elim}
use mathlib.Core.List.Memᴰ
use mathlib.Core.List.{List, [], ◌∷◌, ◌++◌}
use lib.ListN.{length, length-append}
use Rattle.lists.specs.Lists.{◌∈◌, Ordered}
use Rattle.lists.specs.Threes.{Three, three, Dictionary, with_third, with_two, threes, twos_of, threes_of, column0, column1, column2, rejoined, threes_in}
use Rattle.lists.proofs.ListLaws.{append_ordered}

-- ---- how many

module _ {A : Type 0} where
  length_third : (x y : A) (l : List A) → length (with_third x y l) ≡ length l
  unfolding with_third
  length_third x y [] = refl
  length_third x y (z ∷ zs) = ap suc (length_third x y zs)

  length_two : (x : A) (l : List A) → length (with_two x l) ≡ twos_of (length l)
  unfolding with_two twos_of
  length_two x [] = refl
  length_two x (y ∷ ys) = length-append (with_third x y ys) (with_two x ys) ∙ ap₂ ◌+◌ (length_third x y ys) (length_two x ys)

  pub length_threes : (l : List A) → length (threes l) ≡ threes_of (length l)
  unfolding threes threes_of
  length_threes [] = refl
  length_threes (x ∷ xs) = length-append (with_two x xs) (threes xs) ∙ ap₂ ◌+◌ (length_two x xs) (length_threes xs)

  -- ---- who stands there

  third_in : (x y : A) (l : List A) {t : Three A} → t ∈ with_third x y l → (z : A) × (z ∈ l) × (t ≡ three x y z)
  unfolding with_third
  third_in x y [] m = absurd (Memᴰ.not-nil m)
  third_in x y (z ∷ zs) m =
      ⊎_elim (λ e. (z, Memᴰ.head refl, e)) (λ i. let r = third_in x y zs i in (r.0, Memᴰ.tail r.1, r.2)) (Memᴰ.cases_cons m)

  in_third : (x y : A) (l : List A) {z : A} → z ∈ l → three x y z ∈ with_third x y l
  unfolding with_third
  in_third x y [] m = absurd (Memᴰ.not-nil m)
  in_third x y (w ∷ ws) m =
      ⊎_elim (λ e. Memᴰ.head (ap (three x y) e)) (λ i. Memᴰ.tail (in_third x y ws i)) (Memᴰ.cases_cons m)

-- two of an ascending list
two_in : (x : ℕ) (l : List ℕ) → Ordered ◌<◌ l → {t : Three ℕ} → t ∈ with_two x l → (y : ℕ) × (z : ℕ) × (y ∈ l) × (z ∈ l) × (y < z) × (t ≡ three x y z)
unfolding with_two Ordered
two_in x [] o m = absurd (Memᴰ.not-nil m)
two_in x (y ∷ ys) o m =
    ⊎_elim (λ i. let r = third_in x y ys i in (y, r.0, Memᴰ.head refl, Memᴰ.tail r.1, o.0 r.0 r.1, r.2))
    (λ i. let r = two_in x ys o.1 i in (r.0, r.1, Memᴰ.tail r.2, Memᴰ.tail r.3, r.4, r.5))
    (Memᴰ.append_cases (with_third x y ys) m)

in_two : (x : ℕ) (l : List ℕ) → Ordered ◌<◌ l → {y z : ℕ} → y ∈ l → z ∈ l → y < z → three x y z ∈ with_two x l
unfolding with_two Ordered
in_two x [] o m n h = absurd (Memᴰ.not-nil m)
in_two x (w ∷ ws) o {y} {z} m n h =
    ⊎_elim
    (λ e. ⊎_elim (λ f. let no : ⊥ = omega arith in absurd no)
    (λ j. Memᴰ.append_left (with_two x ws) (Memᴰ.cast (ap (λ (a : ℕ). three x a z) e) (in_third x w ws j))) (Memᴰ.cases_cons n))
    (λ i. ⊎_elim (λ f. let l = o.0 y i in let no : ⊥ = omega arith in absurd no)
    (λ j. Memᴰ.append_right (with_third x w ws) (in_two x ws o.1 i j h)) (Memᴰ.cases_cons n))
    (Memᴰ.cases_cons m)

-- three of an ascending list are three of its numbers, ascending
pub threes_in_lem : (l : List ℕ) → Ordered ◌<◌ l → (t : Three ℕ) → t ∈ threes l → (t.a ∈ l) × (t.b ∈ l) × (t.c ∈ l) × (t.a < t.b) × (t.b < t.c)
unfolding threes Ordered
threes_in_lem [] o t m = absurd (Memᴰ.not-nil m)
threes_in_lem (x ∷ xs) o t m =
    ⊎_elim
    (λ i.
    let r = two_in x xs o.1 i in
    let e = r.5 in
    rw e (Memᴰ.head refl, Memᴰ.tail r.2, Memᴰ.tail r.3, o.0 r.0 r.2, r.4))
    (λ i. let r = threes_in_lem xs o.1 t i in (Memᴰ.tail r.0, Memᴰ.tail r.1, Memᴰ.tail r.2, r.3, r.4))
    (Memᴰ.append_cases (with_two x xs) m)

pub in_threes : (l : List ℕ) → Ordered ◌<◌ l → (t : Three ℕ) → t.a ∈ l → t.b ∈ l → t.c ∈ l → t.a < t.b → t.b < t.c → t ∈ threes l
unfolding threes Ordered
in_threes [] o t ia ib ic h g = absurd (Memᴰ.not-nil ia)
in_threes (x ∷ xs) o t ia ib ic h g =
    ⊎_elim
    (λ e.
    Memᴰ.append_left (threes xs)
    (Memᴰ.cast (ap (λ (n : ℕ). three n t.b t.c) e)
    (in_two x xs o.1 (above t.b (omega arith) ib) (above t.c (omega arith) ic) g)))
    (λ i. Memᴰ.append_right (with_two x xs) (in_threes xs o.1 t i (later t.a t.b i h ib) (later t.a t.c i (omega arith) ic) h g))
    (Memᴰ.cases_cons ia)
  where
    -- what is above the first, or above one of the rest, is one of the rest
    above : (z : ℕ) → x < z → z ∈ (x ∷ xs) → z ∈ xs
    above z l j = ⊎_elim (λ e. let no : ⊥ = omega arith in absurd no) (λ k. k) (Memᴰ.cases_cons j)

    later : (y z : ℕ) → y ∈ xs → y < z → z ∈ (x ∷ xs) → z ∈ xs
    later y z i l j = let b = o.0 y i in above z (omega arith) j

-- ---- in which order

third_ordered : (x y : ℕ) (l : List ℕ) → Ordered ◌<◌ l → Ordered Dictionary (with_third x y l)
unfolding with_third Ordered
third_ordered x y [] o = tt
third_ordered x y (z ∷ zs) o = (
  (λ u m. let r = third_in x y zs m in rw r.2 (inr (refl, inr (refl, o.0 r.0 r.1)))),
  third_ordered x y zs o.1,
)

two_ordered : (x : ℕ) (l : List ℕ) → Ordered ◌<◌ l → Ordered Dictionary (with_two x l)
unfolding with_two Ordered
two_ordered x [] o = tt
two_ordered x (y ∷ ys) o =
    append_ordered Dictionary (with_third x y ys) (with_two x ys) (third_ordered x y ys o.1) (two_ordered x ys o.1)
    (λ t u i j.
    let p = third_in x y ys i in
    let q = two_in x ys o.1 j in
    rw (p.2, q.5) (inr (refl, inl (o.0 q.0 q.2))))

pub threes_ordered : (l : List ℕ) → Ordered ◌<◌ l → Ordered Dictionary (threes l)
unfolding threes Ordered
threes_ordered [] o = tt
threes_ordered (x ∷ xs) o =
    append_ordered Dictionary (with_two x xs) (threes xs) (two_ordered x xs o.1) (threes_ordered xs o.1)
    (λ t u i j.
    let p = two_in x xs o.1 i in
    let q = threes_in_lem xs o.1 u j in
    rw p.5 (inl (o.0 u.a q.0)))

pub dictionary_asym : (t u : Three ℕ) → Dictionary t u → Dictionary u t → ⊥
dictionary_asym t u (inl p) (inl q) = omega arith
dictionary_asym t u (inl p) (inr q) = let h = q.0 in omega arith
dictionary_asym t u (inr p) (inl q) = let h = p.0 in omega arith
dictionary_asym t u (inr p) (inr q) = go p.1 q.1
  where
    go : (t.b < u.b) ⊎ ((t.b ≡ u.b) × (t.c < u.c)) → (u.b < t.b) ⊎ ((u.b ≡ t.b) × (u.c < t.c)) → ⊥
    go (inl g) (inl h) = omega arith
    go (inl g) (inr h) = let e = h.0 in omega arith
    go (inr g) (inl h) = let e = g.0 in omega arith
    go (inr g) (inr h) = let d = g.1 in let e = h.1 in omega arith

-- ---- in three lists

-- the columns, whatever follows them, give the threes back
pub threes_back : (ts : List (Three ℕ)) (xs ys zs : List ℕ) → threes_in (column0 ts ++ xs) (column1 ts ++ ys) (column2 ts ++ zs) (length ts) ≡ ts
unfolding rejoined
threes_back [] xs ys zs = refl
threes_back (t ∷ ts) xs ys zs = ap {B = List (Three ℕ)} (λ r. t ∷ r) (threes_back ts xs ys zs)
