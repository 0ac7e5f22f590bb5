-- Own values at their seats in a column, whatever it holds: what putting the rows makes of each column, and what the last own
-- value does.
-- Assumes nothing.
use mathlib.Core.Path.{◌≡◌, refl, sym, ap, ◌∙◌}
use mathlib.Core.Bool.{Bool, true, cond}
use mathlib.Core.List.{List, [], ◌∷◌, ◌++◌, map, map-append, append_assoc}
use Prim.Native.Nat.{ℕ, zero, suc, ◌<◌, ◌≤◌, zero-le, suc-le-suc}
use native.Mathlib.Nat.{not-suc-le-zero, le_of_suc-le-suc}
use native.Mathlib.Omega.{arith}
use borrow.Author.Tests.{ne_eqb, eq-eqb}
use lib.Dec.{eqb}
use lib.ListN.{length, get_or, take, drop, length-map, length-append, length-take, length-drop}
use lib.Seq.{length-take-le, take-append-le, drop-append-le}
use lib.Ieee.{Float}
use Rattle.lists.proofs.Bools.{cases}
use Rattle.search.specs.Keys.{ascending}
use Rattle.search.proofs.KeyLaws.{first_below, tail_ascends}
use Rattle.table.specs.Table.{Row, put}
use Rattle.table.specs.Rows.{keys_of}
use Rattle.table.proofs.Laying.{weights_of}
use Rattle.gathering.specs.Gathering.{standing, puts, below, above, seat_of, seats_of, held_back, Within, seated}
use Rattle.gathering.proofs.SeatLaws.{seat_waits_not, put_seat, seats_kept}

-- ---- the rows put, column by column

module _ {A : Type 0} (f : Row → A) where
  map_take : (l : List Row) (i : ℕ) → map f (take i l) ≡ take i (map f l)
  map_take l zero = refl
  map_take [] (suc i) = refl
  map_take (x ∷ l) (suc i) = ap {B = List A} (λ t. f x ∷ t) (map_take l i)

  map_drop : (l : List Row) (i : ℕ) → map f (drop i l) ≡ drop i (map f l)
  map_drop l zero = refl
  map_drop [] (suc i) = refl
  map_drop (x ∷ l) (suc i) = map_drop l i

  column_put :
      (r : Row) (rs : List Row) (s : ℕ)
      → seat_of r.key (keys_of rs) ≡ s
      → map f (put r rs) ≡ take (below s) (map f rs) ++ f r ∷ drop (above s) (map f rs)
  column_put r rs s e =
      ap (map f) (put_seat r rs)
      ∙ rw (e, map-append f (take (below s) rs) (r ∷ drop (above s) rs), map_take rs (below s), map_drop rs (above s)) refl

  -- the one law: the own rows that stand are put by putting each column's own values at the seats
  pub puts_seated :
      (most : Float) (own rs : List Row)
      → ascending (keys_of own) ≡ true
      → map f (puts most own rs) ≡ seated (held_back most (weights_of own) (seats_of (keys_of rs) (keys_of own))) (map f own) (map f rs)
  unfolding puts held_back seated ascending
  puts_seated most [] rs a = refl
  puts_seated most (r ∷ own) rs a =
      let rest = puts_seated most own rs (tail_ascends r.key (keys_of own) a) in
      let s : ℕ = seat_of r.key (keys_of rs) in
      let some = seat_waits_not r.key (keys_of rs) in
      let same = seats_kept most r.key own rs (λ i l. first_below r.key (keys_of own) i a (rw length-map l)) in
      cases (λ (b : Bool).
      map f (cond b (put r (puts most own rs)) (puts most own rs))
      ≡ seated (cond b s 0 ∷ held_back most (weights_of own) (seats_of (keys_of rs) (keys_of own))) (f r ∷ map f own) (map f rs))
      (standing most r.weight)
      (λ e. column_put r (puts most own rs) s same ∙ rw (ne_eqb s 0 (λ z. omega arith), rest) refl)
      (λ e. rest)

-- ---- the last own value

module _ {A : Type 0} where
  no_shorter : (s : ℕ) (v : A) (ys : List A) → length ys ≤ length (cond (eqb s 0) ys (take (below s) ys ++ v ∷ drop (above s) ys))
  no_shorter s v ys =
      cases (λ (b : Bool). length ys ≤ length (cond b ys (take (below s) ys ++ v ∷ drop (above s) ys))) (eqb s 0)
      (λ e. omega arith)
      (λ e. simp (length-append, length-take, length-drop) (omega arith))

  pub seated_no_shorter : (ss : List ℕ) (vs xs : List A) → length xs ≤ length (seated ss vs xs)
  unfolding seated
  seated_no_shorter [] vs xs = omega arith
  seated_no_shorter (s ∷ ss) [] xs = omega arith
  seated_no_shorter (s ∷ ss) (v ∷ vs) xs = omega (arith, seated_no_shorter ss vs xs, no_shorter s v (seated ss vs xs))

  -- what a seat within zs does to more behind them
  seat_behind :
      (s : ℕ) (v : A) (ys zs ws : List A)
      → ys ≡ zs ++ ws
      → above s ≤ length zs
      → cond (eqb s 0) ys (take (below s) ys ++ v ∷ drop (above s) ys) ≡ cond (eqb s 0) zs (take (below s) zs ++ v ∷ drop (above s) zs) ++ ws
  seat_behind s v ys zs ws e h =
      cases (λ (b : Bool).
      cond b ys (take (below s) ys ++ v ∷ drop (above s) ys) ≡ cond b zs (take (below s) zs ++ v ∷ drop (above s) zs) ++ ws) (eqb s 0)
      (λ c. e)
      (λ c.
      rw (e, take-append-le (below s) zs ws (omega arith), drop-append-le (above s) zs ws h)
      (sym (append_assoc (take (below s) zs) (v ∷ drop (above s) zs) ws)))

  -- it goes before the values above its seat, and the others among those below
  pub seated_last :
      (d : A) (ss : List ℕ) (vs xs : List A) (j : ℕ)
      → j < length ss
      → j < length vs
      → 0 < get_or ss j 0
      → Within (below (get_or ss j 0)) ss j
      → below (get_or ss j 0) ≤ length xs
      → seated (take (suc j) ss) (take (suc j) vs) xs
      ≡ seated (take j ss) (take j vs) (take (below (get_or ss j 0)) xs) ++ get_or vs j d ∷ drop (above (get_or ss j 0)) xs
  unfolding seated
  seated_last d [] vs xs j h g p w l = absurd (not-suc-le-zero h)
  seated_last d (s ∷ ss) [] xs j h g p w l = absurd (not-suc-le-zero g)
  seated_last d (s ∷ ss) (v ∷ vs) xs zero h g p w l = rw (ne_eqb s 0 (λ z. omega arith)) refl
  seated_last d (s ∷ ss) (v ∷ vs) xs (suc j) h g p w l =
      let b : ℕ = below (get_or ss j 0) in
      seat_behind s v (seated (take (suc j) ss) (take (suc j) vs) xs) (seated (take j ss) (take j vs) (take b xs))
      (get_or vs j d ∷ drop (above (get_or ss j 0)) xs)
      (seated_last d ss vs xs j (le_of_suc-le-suc h) (le_of_suc-le-suc g) p (λ i q. w (suc i) (suc-le-suc q)) l)
      (omega (arith, w 0 (suc-le-suc zero-le), seated_no_shorter (take j ss) (take j vs) (take b xs), length-take-le b xs l))

  -- it waits
  pub seated_waits :
      (ss : List ℕ) (vs xs : List A) (j : ℕ)
      → j < length ss
      → j < length vs
      → get_or ss j 0 ≡ 0
      → seated (take (suc j) ss) (take (suc j) vs) xs ≡ seated (take j ss) (take j vs) xs
  unfolding seated
  seated_waits [] vs xs j h g e = absurd (not-suc-le-zero h)
  seated_waits (s ∷ ss) [] xs j h g e = absurd (not-suc-le-zero g)
  seated_waits (s ∷ ss) (v ∷ vs) xs zero h g e = rw (eq-eqb s 0 e) refl
  seated_waits (s ∷ ss) (v ∷ vs) xs (suc j) h g e =
      ap (λ (ys : List A). cond (eqb s 0) ys (take (below s) ys ++ v ∷ drop (above s) ys))
      (seated_waits ss vs xs j (le_of_suc-le-suc h) (le_of_suc-le-suc g) e)
