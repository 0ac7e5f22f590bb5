-- Every four of an ascending list: who stands there, and in which order.
-- Assumes nothing.
use Prim.Native.Nat.{ℕ, ◌<◌}
use native.Mathlib.Omega.{arith}
use mathlib.Core.Path.{refl, ap}
use mathlib.Core.Logic.{inl, inr, ⊎_elim}
use mathlib.Core.List.Memᴰ
use mathlib.Core.List.{List, [], ◌∷◌, map}
use Rattle.lists.specs.Lists.{◌∈◌, Ordered}
use Rattle.lists.proofs.ListLaws.{map_in, in_map, map_ordered, ordered_weaken, append_ordered}
use Rattle.lists.specs.Threes.{Three, three, Dictionary, threes}
use Rattle.lists.proofs.ThreeLaws.{threes_in_lem, in_threes, threes_ordered, dictionary_asym}
use Rattle.tetrahedra.specs.Fours.{Four, four, Rising, Dictionary4, before, fours}

-- four of a list, ascending
pub record Among (l : List ℕ) (t : Four) : Type 0 where
  pub rising : Rising t
  pub a_in : t.a ∈ l
  pub b_in : t.b ∈ l
  pub c_in : t.c ∈ l
  pub d_in : t.d ∈ l

-- x before three of a list that is above it
before_among : (x : ℕ) (xs : List ℕ) → Ordered ◌<◌ xs → ((y : ℕ) → y ∈ xs → x < y) → (t : Four) → t ∈ map (before x) (threes xs) → Among (x ∷ xs) t
before_among x xs o low t m =
    let j = map_in (before x) (threes xs) m in
    let s : Three ℕ = j.0 in
    let r = threes_in_lem xs o s j.1 in
    rw j.2 (record {
      rising = record { a_b = low s.a r.0; b_c = r.3; c_d = r.4 };
      a_in = Memᴰ.head refl;
      b_in = Memᴰ.tail r.0;
      c_in = Memᴰ.tail r.1;
      d_in = Memᴰ.tail r.2;
    })

pub fours_in : (l : List ℕ) → Ordered ◌<◌ l → (t : Four) → t ∈ fours l → Among l t
unfolding fours Ordered
fours_in [] o t m = absurd (Memᴰ.not-nil m)
fours_in (x ∷ xs) o t m =
    ⊎_elim (λ i. before_among x xs o.1 o.0 t i)
    (λ i. let r = fours_in xs o.1 t i in
    record {
      rising = r.rising;
      a_in = Memᴰ.tail r.a_in;
      b_in = Memᴰ.tail r.b_in;
      c_in = Memᴰ.tail r.c_in;
      d_in = Memᴰ.tail r.d_in;
    })
    (Memᴰ.append_cases (map (before x) (threes xs)) m)

pub in_fours : (l : List ℕ) → Ordered ◌<◌ l → (t : Four) → Among l t → t ∈ fours l
unfolding fours Ordered
in_fours [] o t h = absurd (Memᴰ.not-nil h.a_in)
in_fours (x ∷ xs) o t h =
    ⊎_elim
    (λ e.
    Memᴰ.append_left (fours xs)
    (Memᴰ.cast (ap (λ (n : ℕ). four n t.b t.c t.d) e)
    (in_map (before x) (threes xs)
    (in_threes xs o.1 (three t.b t.c t.d) (above t.b (omega arith) h.b_in) (above t.c (omega arith) h.c_in)
    (above t.d (omega arith) h.d_in) h.rising.b_c h.rising.c_d))))
    (λ i.
    Memᴰ.append_right (map (before x) (threes xs))
    (let l = o.0 t.a i in
    in_fours xs o.1 t (record {
      rising = h.rising;
      a_in = i;
      b_in = above t.b (omega arith) h.b_in;
      c_in = above t.c (omega arith) h.c_in;
      d_in = above t.d (omega arith) h.d_in;
    })))
    (Memᴰ.cases_cons h.a_in)
  where
    ab : t.a < t.b
    ab = h.rising.a_b

    bc : t.b < t.c
    bc = h.rising.b_c

    cd : t.c < t.d
    cd = h.rising.c_d

    -- what is above the first is one of the rest
    above : (z : ℕ) → x < z → z ∈ (x ∷ xs) → z ∈ xs
    above z l j = ⊎_elim (λ e. let no : ⊥ = omega arith in absurd no) (λ k. k) (Memᴰ.cases_cons j)

pub fours_ordered : (l : List ℕ) → Ordered ◌<◌ l → Ordered Dictionary4 (fours l)
unfolding fours Ordered
fours_ordered [] o = tt
fours_ordered (x ∷ xs) o =
    append_ordered Dictionary4 (map (before x) (threes xs)) (fours xs)
    (map_ordered Dictionary4 (before x) (threes xs)
    (ordered_weaken Dictionary (λ s t. Dictionary4 (before x s) (before x t)) (threes xs) (λ s t p q d. inr (refl, d)) (threes_ordered xs o.1)))
    (fours_ordered xs o.1)
    (λ t u i j.
    let p = map_in (before x) (threes xs) i in
    let q = fours_in xs o.1 u j in
    let l = o.0 u.a q.a_in in
    rw p.2 (inl l))

pub dictionary4_asym : (t u : Four) → Dictionary4 t u → Dictionary4 u t → ⊥
dictionary4_asym t u (inl p) (inl q) = omega arith
dictionary4_asym t u (inl p) (inr q) = let h = q.0 in omega arith
dictionary4_asym t u (inr p) (inl q) = let h = p.0 in omega arith
dictionary4_asym t u (inr p) (inr q) = dictionary_asym (three t.b t.c t.d) (three u.b u.c u.d) p.1 q.1
