-- Settling a column from the last own value down: what is left of both makes, and what is written already behind it, is the whole.
-- Assumes nothing.
use mathlib.Core.Path.{◌≡◌, refl, sym, ap, ◌∙◌}
use mathlib.Core.List.{List, ◌∷◌, ◌++◌, append_assoc}
use Prim.Native.Nat.{ℕ, suc, ◌+◌, ◌-◌, ◌<◌, ◌≤◌}
use native.Mathlib.Omega.{arith}
use lib.ListN.{length, get_or, take, drop, set, length-append, length-take, length-drop, length-set, take-append-drop}
use lib.Seq.{length-take-le, take-take, take-append-le, drop-cons, get_or-set_same, take-set-le, drop-set-lt, drop_at}
use Rattle.table.specs.Table.{laid}
use Rattle.gathering.specs.Gathering.{below, above, Within, InOrder, seated, settled_in, Settles}
use Rattle.gathering.specs.Steps.{slid, seat_place, seated_at}
use Rattle.gathering.proofs.Seated.{seated_no_shorter, seated_last, seated_waits}

-- what the first j own values and the first r of the column make
abbrev pub rest : {A : Type 0} → List ℕ → List A → List A → ℕ → ℕ → List A
rest ss vs before j r = seated (take j ss) (take j vs) (take r before)

-- r values of the column and j own ones are left, and w places are not written yet
pub record Settling (A : Type 0) (ss : List ℕ) (vs before : List A) (n m r j w : ℕ) (held : List A) : Type 0 where
  pub inside : r ≤ n
  pub left : j ≤ m
  pub within : Within r ss j
  pub place : w ≡ length (rest ss vs before j r)
  pub reach : r ≤ w
  pub room : w ≤ length held
  pub size : length held ≡ length before
  pub kept : take r held ≡ take r before
  pub whole : rest ss vs before j r ++ drop w held ≡ laid (rest ss vs before m n) before

module _ {A : Type 0} (d : A) {ss : List ℕ} {vs before : List A} {n m total : ℕ} (h : Settles before n ss vs m total) where
  -- a place is as far up as the values left
  reaches : (r j w : ℕ) → r ≤ n → w ≡ length (rest ss vs before j r) → r ≤ w
  reaches r j w inside e = omega (arith, seated_no_shorter (take j ss) (take j vs) (take r before), length-take-le r before (omega (arith, h.column)))

  pub begins : Within n ss m → Settling A ss vs before n m n m total before
  begins i =
      record {
        inside = omega arith;
        left = omega arith;
        within = i;
        place = h.makes;
        reach = reaches n m total (omega arith) h.makes;
        room = h.room;
        size = refl;
        kept = refl;
        whole = ap (λ (t : ℕ). rest ss vs before m n ++ drop t before) h.makes;
      }

  module _ {r j w : ℕ} {held : List A} (s : Settling A ss vs before n m r j w held) where
    -- no own value is left
    pub ended : j ≤ 0 → held ≡ settled_in before n ss vs m
    unfolding seated
    ended z =
        let none : j ≡ 0 = omega arith in
        let made : rest ss vs before j r ≡ take r before = ap (λ (i : ℕ). rest ss vs before i r) none in
        let here : w ≡ r = s.place ∙ ap length made ∙ length-take-le r before (omega (arith, s.inside, h.column)) in
        sym (take-append-drop r held)
        ∙ ap (λ (t : List A). t ++ drop r held) s.kept
        ∙ ap (λ (i : ℕ). take r before ++ drop i held) (sym here)
        ∙ ap (λ (t : List A). t ++ drop w held) (sym made)
        ∙ s.whole

    -- the last own value waits
    pub waits : (i : ℕ) → j ≡ suc i → get_or ss i 0 ≡ 0 → Settling A ss vs before n m r i w held
    waits i e z =
        let same : rest ss vs before j r ≡ rest ss vs before i r =
        ap (λ (t : ℕ). rest ss vs before t r) e
        ∙ seated_waits ss vs (take r before) i (omega (arith, s.left, h.seats)) (omega (arith, s.left, h.values)) z in
        record {
          inside = s.inside;
          left = omega (arith, s.left);
          within = λ q l. s.within q (omega arith);
          place = s.place ∙ ap length same;
          reach = s.reach;
          room = s.room;
          size = s.size;
          kept = s.kept;
          whole = ap (λ (t : List A). t ++ drop w held) (sym same) ∙ s.whole;
        }

    -- it is put: the column's values from `from` on, which are those above its seat, go up to the place, and it stands before them
    module _ (i : ℕ) (e : j ≡ suc i) (some : 0 < get_or ss i 0) (order : InOrder ss m) (from q : ℕ) (ea : from ≡ above (get_or ss i 0))
        (moved : q + r ≡ w + from) where
      abbrev b : ℕ
      b = below (get_or ss i 0)

      inner : from ≤ r
      inner = rw ea (s.within i (omega arith))

      low : b ≤ from
      low = omega (arith, ea)

      size_left : length (take r before) ≡ r
      size_left = length-take-le r before (omega (arith, s.inside, h.column))

      splits : rest ss vs before j r ≡ rest ss vs before i b ++ get_or vs i d ∷ drop from (take r before)
      splits =
          ap (λ (t : ℕ). rest ss vs before t r) e
          ∙ seated_last d ss vs (take r before) i (omega (arith, s.left, h.seats)) (omega (arith, s.left, h.values)) some
          (λ t h. order t i h (omega (arith, s.left)) some) (omega (arith, inner, low, size_left))
          ∙ rw (← ea, take-take b r before (omega (arith, inner, low))) refl

      spot : q ≡ suc (length (rest ss vs before i b))
      spot =
          omega (
            arith,
            inner,
            moved,
            s.place,
            ap length splits,
            length-append (rest ss vs before i b) (get_or vs i d ∷ drop from (take r before)),
            length-drop from (take r before),
            size_left,
          )

      -- the place is there
      here : (0 < q) × (q ≤ length held)
      here = (omega (arith, spot), omega (arith, inner, moved, s.room))

      fit : (q ≤ w) × (b ≤ q - 1)
      fit = (omega (arith, inner, moved), reaches b i (q - 1) (omega (arith, inner, low, s.inside)) (omega (arith, spot)))

      long : length (slid held q from r w) ≡ length held
      long = simp (length-append, length-take, length-drop) (omega (arith, inner, s.reach, moved, s.room, fit))

      front : length (take q held) ≡ q
      front = length-take-le q held (omega (arith, fit, s.room))

      after : drop (q - 1) (set (slid held q from r w) (q - 1) (get_or vs i d)) ≡ get_or vs i d ∷ (drop from (take r before) ++ drop w held)
      after =
          let inside : q - 1 < length (slid held q from r w) = omega (arith, long, spot, fit, s.room) in
          drop-cons (set (slid held q from r w) (q - 1) (get_or vs i d)) (q - 1) d (rw length-set inside)
          ∙ rw (
            get_or-set_same (slid held q from r w) (q - 1) (get_or vs i d) d inside,
            drop-set-lt (suc (q - 1)) (slid held q from r w) (q - 1) (get_or vs i d) (omega arith),
            drop_at (take q held) (drop from (take r held) ++ drop w held) (suc (q - 1)) (omega (arith, spot, front)),
            s.kept,
          ) refl

      settles : Settling A ss vs before n m b i (q - 1) (set (slid held q from r w) (q - 1) (get_or vs i d))
      settles =
          record {
            inside = omega (arith, inner, low, s.inside);
            left = omega (arith, s.left);
            within = λ t h. order t i h (omega (arith, s.left)) some;
            place = omega (arith, spot);
            reach = fit.1;
            room = rw (length-set, long) (omega (arith, fit, s.room));
            size = length-set (slid held q from r w) (q - 1) (get_or vs i d) ∙ long ∙ s.size;
            kept =
                take-set-le b (slid held q from r w) (q - 1) (get_or vs i d) fit.1
                ∙ take-append-le b (take q held) (drop from (take r held) ++ drop w held) (omega (arith, front, fit))
                ∙ take-take b q held (omega (arith, fit))
                ∙ sym (take-take b r held (omega (arith, inner, low)))
                ∙ ap (take b) s.kept
                ∙ take-take b r before (omega (arith, inner, low));
            whole =
                ap (λ (t : List A). rest ss vs before i b ++ t) after
                ∙ sym (append_assoc (rest ss vs before i b) (get_or vs i d ∷ drop from (take r before)) (drop w held))
                ∙ ap (λ (t : List A). t ++ drop w held) (sym splits)
                ∙ s.whole;
          }

      -- the same of any such list
      put_down :
          (slid-list : List A) (r' : ℕ)
          → slid-list ≡ slid held q from r w
          → r' ≡ b
          → Settling A ss vs before n m r' i (q - 1) (set slid-list (q - 1) (get_or vs i d))
      put_down l r' p q = rw (p, q) settles

    -- the seat's place is there
    pub seat_fits : (i : ℕ)
        → j ≡ suc i
        → 0 < get_or ss i 0
        → InOrder ss m
        → (above (get_or ss i 0) ≤ r) × (r ≤ w) × (w ≤ length held) × (r < w + above (get_or ss i 0))
    seat_fits i e some order =
        let there = here i e some order (above (get_or ss i 0)) (w + above (get_or ss i 0) - r) refl (omega (arith, s.reach)) in
        (s.within i (omega arith), s.reach, s.room, omega (arith, there.0))

    -- the last own value is put by its seat
    pub seat_down : (i : ℕ)
        → j ≡ suc i
        → 0 < get_or ss i 0
        → InOrder ss m
        → (r' w' : ℕ) (held' : List A)
        → r' ≡ below (get_or ss i 0)
        → w' ≡ seat_place (get_or ss i 0) r w
        → held' ≡ seated_at (get_or ss i 0) r w (get_or vs i d) held
        → Settling A ss vs before n m r' i w' held'
    seat_down i e some order r' w' held' er ew eh =
        rw (ew, eh)
        (put_down i e some order (above (get_or ss i 0)) (w + above (get_or ss i 0) - r) refl (omega (arith, s.reach)) _ r' refl er)
