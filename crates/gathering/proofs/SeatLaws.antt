-- The seat of a key: a row is put there, the seats of ascending keys are in order, and putting a later row moves no earlier seat.
-- Assumes nothing.
use Rattle.std.specs.Prelude.{Some, None}
use mathlib.Core.Path.{◌≡◌, refl, sym, ap, ◌∙◌}
use mathlib.Core.Logic.{◌⊎◌, inl, inr}
use mathlib.Core.Bool.{Bool, true, cond, ◌&&◌, and-false}
use mathlib.Core.List.{List, [], ◌∷◌, ◌++◌}
use Prim.Native.Nat.{ℕ, suc, ◌+◌, ◌*◌, ◌<◌, ◌≤◌, zero-le, suc-le-suc}
use native.Mathlib.Omega.{arith}
use borrow.Author.Tests.{lt-ltb, le-ltb, ne_eqb, eq-eqb}
use lib.Dec.{ltb, eqb, leb-suc-suc}
use lib.ListN.{length, get_or, take, drop}
use lib.Seq.{length-take-le, get_or-take}
use lib.Ieee.{Float}
use Rattle.lists.proofs.Bools.{cases}
use Rattle.search.specs.Keys.{ascending, place_of, find, find_by}
use Rattle.search.proofs.KeyLaws.{place_length, halved_place, find_by-find}
use Rattle.table.specs.Table.{Row, put}
use Rattle.table.specs.Rows.{keys_of}
use Rattle.gathering.specs.Gathering.{puts, below, above, seat_of}
use Rattle.gathering.proofs.PutLaws.{three, past, here, front, by_first}

-- ---- by the first key

module _ (k l : ℕ) (ls : List ℕ) where
  seat_past : l < k → seat_of k (l ∷ ls) ≡ seat_of k ls + 2
  unfolding seat_of
  seat_past h = rw (lt-ltb l k h)

  seat_here : l ≡ k → seat_of k (l ∷ ls) ≡ 2
  unfolding seat_of
  seat_here e = rw (le-ltb l k (omega arith), eq-eqb l k e)

  seat_front : k < l → seat_of k (l ∷ ls) ≡ 1
  unfolding seat_of
  seat_front h = rw (le-ltb l k (omega arith), ne_eqb l k (λ e. omega arith))

  by_key : (P : ℕ → Type 0) → (l < k → P (seat_of k ls + 2)) → (l ≡ k → P 2) → (k < l → P 1) → P (seat_of k (l ∷ ls))
  by_key P p h f = go (three l k)
    where
      go : (l < k) ⊎ ((l ≡ k) ⊎ (k < l)) → P (seat_of k (l ∷ ls))
      go (inl q) = rw (seat_past q) (p q)
      go (inr (inl q)) = rw (seat_here q) (h q)
      go (inr (inr q)) = rw (seat_front q) (f q)

-- ---- where it is

-- no key waits
pub seat_waits_not : (k : ℕ) (ks : List ℕ) → 0 < seat_of k ks
unfolding seat_of
seat_waits_not k [] = suc-le-suc zero-le
seat_waits_not k (l ∷ ls) = by_key k l ls (λ (s : ℕ). 0 < s) (λ q. omega arith) (λ q. omega arith) (λ q. omega arith)

pub seat_within : (k : ℕ) (ks : List ℕ) → above (seat_of k ks) ≤ length ks
unfolding seat_of
seat_within k [] = zero-le
seat_within k (l ∷ ls) =
    let rest = seat_within k ls in
    by_key k l ls (λ (s : ℕ). above s ≤ suc (length ls)) (λ q. omega arith) (λ q. omega arith) (λ q. omega arith)

pub seat_order : (k m : ℕ) (ks : List ℕ) → k < m → above (seat_of k ks) ≤ below (seat_of m ks)
unfolding seat_of
seat_order k m [] h = zero-le
seat_order k m (l ∷ ls) h =
    let rest = seat_order k m ls h in
    let some = seat_waits_not m ls in
    by_key k l ls (λ (s : ℕ). above s ≤ below (seat_of m (l ∷ ls)))
    (λ q. rw (seat_past m l ls (omega arith)) (omega arith))
    (λ q. rw (seat_past m l ls (omega arith)) (omega arith))
    (λ q. zero-le)

-- ---- a row put

pub put_seat : (r : Row) (rs : List Row) → put r rs ≡ take (below (seat_of r.key (keys_of rs))) rs ++ r ∷ drop (above (seat_of r.key (keys_of rs))) rs
unfolding put seat_of
put_seat r [] = refl
put_seat r (x ∷ l) = go (put_seat r l) (three x.key r.key)
  where
    go :
        put r l ≡ take (below (seat_of r.key (keys_of l))) l ++ r ∷ drop (above (seat_of r.key (keys_of l))) l
        → (x.key < r.key) ⊎ ((x.key ≡ r.key) ⊎ (r.key < x.key))
        → put r (x ∷ l)
        ≡ take (below (seat_of r.key (keys_of (x ∷ l)))) (x ∷ l) ++ r ∷ drop (above (seat_of r.key (keys_of (x ∷ l)))) (x ∷ l)
    go ih (inl q) =
        let some = seat_waits_not r.key (keys_of l) in
        let s : ℕ = seat_of r.key (keys_of l) in
        let b : below (s + 2) ≡ suc (below s) = omega arith in
        let a : above (s + 2) ≡ suc (above s) = omega arith in
        rw (past r x l q, seat_past r.key x.key (keys_of l) q, b, a) (ap {B = List Row} (λ t. x ∷ t) ih)
    go ih (inr (inl q)) = rw (here r x l q, seat_here r.key x.key (keys_of l) q)
    go ih (inr (inr q)) = rw (front r x l q, seat_front r.key x.key (keys_of l) q)

seat_kept : (k : ℕ) (r : Row) (l : List Row) → k < r.key → seat_of k (keys_of (put r l)) ≡ seat_of k (keys_of l)
unfolding put seat_of
seat_kept k r [] h = seat_front k r.key [] h
seat_kept k r (x ∷ l) h = go (seat_kept k r l h) (three x.key r.key)
  where
    go :
        seat_of k (keys_of (put r l)) ≡ seat_of k (keys_of l)
        → (x.key < r.key) ⊎ ((x.key ≡ r.key) ⊎ (r.key < x.key))
        → seat_of k (keys_of (put r (x ∷ l))) ≡ seat_of k (keys_of (x ∷ l))
    go ih (inl q) = rw (past r x l q, ih)
    go ih (inr (inl q)) = rw (here r x l q, q)
    go ih (inr (inr q)) = rw (front r x l q, seat_front k r.key (keys_of (x ∷ l)) h, seat_front k x.key (keys_of l) (omega arith))

-- rows put above k
pub seats_kept :
    (most : Float) (k : ℕ) (own rs : List Row)
    → ((i : ℕ) → i < length own → k < get_or (keys_of own) i 0)
    → seat_of k (keys_of (puts most own rs)) ≡ seat_of k (keys_of rs)
unfolding puts
seats_kept most k [] rs h = refl
seats_kept most k (r ∷ own) rs h =
    let rest = seats_kept most k own rs (λ i l. h (suc i) (suc-le-suc l)) in
    by_first most (λ (t : List Row). seat_of k (keys_of t) ≡ seat_of k (keys_of rs)) r own rs
    (λ s. seat_kept k r (puts most own rs) (h 0 (suc-le-suc zero-le)) ∙ rest)
    (λ s. rest)

-- ---- by the place of a key

-- the seat over or before a place
abbrev seat_by : Bool → ℕ → ℕ
seat_by over p = cond over (2 * p + 2) (2 * p + 1)

seat_next : (b : Bool) (p : ℕ) → seat_by b p + 2 ≡ seat_by b (suc p)
seat_next b p = cases (λ (t : Bool). seat_by t p + 2 ≡ seat_by t (suc p)) b (λ e. omega arith) (λ e. omega arith)

seat_place : (k : ℕ) (ks : List ℕ) → seat_of k ks ≡ seat_by (ltb (place_of k ks) (length ks) && eqb (get_or ks (place_of k ks) 0) k) (place_of k ks)
unfolding seat_of place_of
seat_place k [] = refl
seat_place k (l ∷ ls) =
    cases (λ (b : Bool).
    cond b (seat_of k ls + 2) (cond (eqb l k) 2 1)
    ≡ seat_by (ltb (cond b (suc (place_of k ls)) 0) (suc (length ls)) && eqb (get_or (l ∷ ls) (cond b (suc (place_of k ls)) 0) 0) k)
    (cond b (suc (place_of k ls)) 0)) (ltb l k)
    (λ e.
    rw (leb-suc-suc (suc (place_of k ls)) (length ls), seat_place k ls)
    (seat_next (ltb (place_of k ls) (length ls) && eqb (get_or ls (place_of k ls) 0) k) (place_of k ls)))
    (λ e. rw (lt-ltb 0 (suc (length ls)) (suc-le-suc zero-le)) refl)

by_over :
    (b : Bool) (p s : ℕ)
    → s ≡ seat_by b p
    → cond b (Some p) None ≡ cond (ltb (below s) (above s)) (Some (below s)) None
by_over b p s =
    cases (λ (t : Bool). s ≡ seat_by t p → cond t (Some p) None ≡ cond (ltb (below s) (above s)) (Some (below s)) None) b
    (λ c e. let q : below s ≡ p = omega arith in rw (lt-ltb (below s) (above s) (omega arith), q) refl)
    (λ c e. rw (le-ltb (below s) (above s) (omega arith)) refl)

-- on ascending keys a seat over a row is where its key is found
pub seat_find : (k : ℕ) (ks : List ℕ)
    → ascending ks ≡ true
    → find k ks ≡ cond (ltb (below (seat_of k ks)) (above (seat_of k ks))) (Some (below (seat_of k ks))) None
unfolding find_by
seat_find k ks a =
    sym (find_by-find k ks a)
    ∙ rw (halved_place k ks a)
    (by_over (ltb (place_of k ks) (length ks) && eqb (get_or ks (place_of k ks) 0) k) (place_of k ks) (seat_of k ks) (seat_place k ks))

-- the same of the first n of a list
module _ (k : ℕ) (ks : List ℕ) (n p : ℕ) (g : n ≤ length ks) (e : p ≡ place_of k (take n ks)) where
  pub place_in : p ≤ n
  place_in = omega (arith, place_length k (take n ks), length-take-le n ks g)

  pub seat_end : n ≤ p → 2 * p + 1 ≡ seat_of k (take n ks)
  seat_end h = sym (seat_place k (take n ks) ∙ rw (← e, length-take-le n ks g, le-ltb p n h) refl)

  pub seat_before : p < n → (get_or ks p 0 ≡ k → ⊥) → 2 * p + 1 ≡ seat_of k (take n ks)
  seat_before h t = sym (seat_place k (take n ks) ∙ rw (← e, get_or-take n ks p 0 h, ne_eqb (get_or ks p 0) k t, and-false) refl)

  pub seat_over : p < n → get_or ks p 0 ≡ k → 2 * p + 1 + 1 ≡ seat_of k (take n ks)
  seat_over h t =
      sym (seat_place k (take n ks) ∙ rw (← e, length-take-le n ks g, lt-ltb p n h, get_or-take n ks p 0 h, eq-eqb (get_or ks p 0) k t) (omega arith))
