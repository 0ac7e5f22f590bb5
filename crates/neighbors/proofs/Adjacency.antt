-- The neighbours of a key are exactly the keys adjacent to it, each once; adjacency is symmetric and stays on the lattice.
-- Assumes nothing.
use Rattle.std.specs.Prelude.{Some, None, Option}
use mathlib.Core.Path.{◌≡◌, refl, sym, ap, ◌∙◌}
use mathlib.Core.Bool.{Bool, true, false, not, cond, ◌&&◌, ◌||◌, false≢true, or-true}
use mathlib.Core.Logic.{⊎_elim}
use mathlib.Core.List.{List, [], ◌∷◌, ◌++◌, map, Memᴰ}
use Prim.Native.Nat.{ℕ, ◌+◌, ◌-◌, ◌/◌, ◌%◌, ◌<◌, ◌≤◌}
use native.Mathlib.Nat.{add_comm, add-mod, add-mod_right}
use native.Mathlib.Omega.{arith}
use lib.Dec.{T, eqb, leb, ltb, lit≤}
use lib.ListN.{length, replicate}
use borrow.Author.Tests.{eq-eqb, ltb-true, leb-true, eqb-true, not-true}
use Rattle.ids.specs.Key.{key_of, head_of, x_of, y_of, z_of, same_parity, on_lattice}
use Rattle.ids.proofs.KeyLaws.{coord_small, head_of_key, x_of_key, y_of_key, z_of_key, key_of_parts, on_xyz, same_parity_lem}
use Rattle.lists.specs.Lists.{Ordered, Distinct}
use Rattle.lists.proofs.Bools.{and_first, and_second, or_cases, eqb_comm}
use Rattle.lists.proofs.Table.{every, below}
use Rattle.neighbors.specs.Neighbors.{Offset, offsets, in_box, move_to, reached_from, reached, shown, neighbours_by, neighbours, apart, one_step, adjacent}
use Rattle.neighbors.proofs.NeighborLaws.{within}

-- adjacency is symmetric
pub adjacent_sym : (k l : ℕ) → adjacent k l ≡ adjacent l k
unfolding adjacent
adjacent_sym k l = rw (eqb_comm (head_of k) (head_of l), add_comm (x_of k - x_of l), add_comm (y_of k - y_of l), add_comm (z_of k - z_of l))

-- a step that stays inside
module _ (x d : ℕ) (i : in_box x d ≡ true) where
  inside_low : 2 ≤ x + d
  unfolding in_box
  inside_low = leb-true 2 (x + d) (and_first (leb 2 (x + d)) (ltb (x + d) 65538) i)

  inside_high : x + d < 65538
  unfolding in_box
  inside_high = ltb-true (x + d) 65538 (and_second (leb 2 (x + d)) (ltb (x + d) 65538) i)

  move_small : move_to x d < 65536
  move_small = omega (arith, inside_low, inside_high)

  move_apart : apart x (move_to x d) ≡ apart 2 d
  move_apart = omega (arith, inside_low)

  move_back : move_to x d + 2 - x ≡ d
  move_back = omega (arith, inside_low)

-- the key that an offset leads to, where it stays inside
Inside : ℕ → Offset → Type 0
Inside k o = (in_box (x_of k) o.0 ≡ true) × (in_box (y_of k) o.1 ≡ true) × (in_box (z_of k) o.2 ≡ true)

unfoldable pub led : ℕ → Offset → ℕ
led k o = key_of (head_of k) (move_to (x_of k) o.0) (move_to (y_of k) o.1) (move_to (z_of k) o.2)

-- how it is seen to be reached
reached_inside : (k : ℕ) (o : Offset) → Inside k o → reached k o ≡ Some (led k o)
unfolding Inside led reached_from
reached_inside k o i = rw (i.0, i.1, i.2)

shown_cond : (p q r : Bool) (key l : ℕ)
    → Memᴰ l (shown (cond (p && (q && r)) (Some key) None))
    → (p ≡ true) × (q ≡ true) × (r ≡ true) × (l ≡ key)
unfolding shown
shown_cond true true true key l m = (refl, refl, refl, mathlib.Core.List.Memᴰ.eq_of_singleton m)
shown_cond true true false key l m = absurd (mathlib.Core.List.Memᴰ.not-nil m)
shown_cond true false r key l m = absurd (mathlib.Core.List.Memᴰ.not-nil m)
shown_cond false q r key l m = absurd (mathlib.Core.List.Memᴰ.not-nil m)

module _ (k l : ℕ) (o : Offset) (m : Memᴰ l (shown (reached k o))) where
  parts : (in_box (x_of k) o.0 ≡ true) × (in_box (y_of k) o.1 ≡ true) × (in_box (z_of k) o.2 ≡ true) × (l ≡ led k o)
  unfolding reached_from led
  parts = shown_cond (in_box (x_of k) o.0) (in_box (y_of k) o.1) (in_box (z_of k) o.2) (led k o) l m

  head_led : head_of l ≡ head_of k
  unfolding led
  head_led = rw parts.3 (head_of_key _ _ _ _)

  x_led : x_of l ≡ move_to (x_of k) o.0
  unfolding led
  x_led = rw parts.3 (x_of_key _ _ _ _ (move_small _ _ parts.0))

  y_led : y_of l ≡ move_to (y_of k) o.1
  unfolding led
  y_led = rw parts.3 (y_of_key _ _ _ _ (move_small _ _ parts.1))

  z_led : z_of l ≡ move_to (z_of k) o.2
  unfolding led
  z_led = rw parts.3 (z_of_key _ _ _ _ (move_small _ _ parts.2))

-- a member is a member by one of the offsets, and the other way
each : (k l : ℕ) (os : List Offset) (P : Type 0) → ((o : Offset) → Memᴰ o os → Memᴰ l (shown (reached k o)) → P) → Memᴰ l (neighbours_by k os) → P
unfolding neighbours_by
each k l [] P f m = absurd (mathlib.Core.List.Memᴰ.not-nil m)
each k l (o ∷ os) P f m =
    ⊎_elim (λ h. f o (mathlib.Core.List.Memᴰ.head refl) h) (λ t. each k l os P (λ p q. f p (mathlib.Core.List.Memᴰ.tail q)) t)
    (mathlib.Core.List.Memᴰ.append_cases (shown (reached k o)) m)

by : (k l : ℕ) (o : Offset) (os : List Offset) → Memᴰ o os → reached k o ≡ Some l → Memᴰ l (neighbours_by k os)
unfolding neighbours_by shown
by k l o [] m e = absurd (mathlib.Core.List.Memᴰ.not-nil m)
by k l o (p ∷ os) m e =
    ⊎_elim (λ q. rw (← q, e) (mathlib.Core.List.Memᴰ.head refl))
    (λ t. mathlib.Core.List.Memᴰ.append_right (shown (reached k p)) (by k l o os t e)) (mathlib.Core.List.Memᴰ.cases_cons m)

-- offsets are compared by a test
alike : Offset → Offset → Bool
alike o p = eqb o.0 p.0 && (eqb o.1 p.1 && eqb o.2 p.2)

alike_eq : (o p : Offset) → alike o p ≡ true → o ≡ p
unfolding alike
alike_eq o p e =
    let a = eqb o.0 p.0 in
    let b = eqb o.1 p.1 in
    let c = eqb o.2 p.2 in
    let r = and_second a (b && c) e in
    let x = eqb-true o.0 p.0 (and_first a (b && c) e) in
    let y = eqb-true o.1 p.1 (and_first b c r) in
    let z = eqb-true o.2 p.2 (and_second b c r) in
    rw (x, y, z)

alike_self : (o : Offset) → alike o o ≡ true
unfolding alike
alike_self o = rw (eq-eqb o.0 o.0 refl, eq-eqb o.1 o.1 refl, eq-eqb o.2 o.2 refl)

has : Offset → List Offset → Bool
has o [] = false
has o (p ∷ ps) = alike o p || has o ps

has_mem : (o : Offset) (os : List Offset) → has o os ≡ true → Memᴰ o os
unfolding has
has_mem o [] e = absurd (false≢true e)
has_mem o (p ∷ os) e =
    ⊎_elim (λ a. mathlib.Core.List.Memᴰ.head (alike_eq o p a)) (λ r. mathlib.Core.List.Memᴰ.tail (has_mem o os r)) (or_cases (alike o p) (has o os) e)

mem_has : (o : Offset) (os : List Offset) → Memᴰ o os → has o os ≡ true
unfolding has
mem_has o [] m = absurd (mathlib.Core.List.Memᴰ.not-nil m)
mem_has o (p ∷ os) m =
    ⊎_elim (λ e. rw (← e, alike_self o)) (λ t. rw (mem_has o os t) (or-true (alike o p))) (mathlib.Core.List.Memᴰ.cases_cons m)

-- a test that passes at every offset of a list
all : (Offset → Bool) → List Offset → Bool
all f [] = true
all f (o ∷ os) = f o && all f os

all_at : (f : Offset → Bool) (os : List Offset) → all f os ≡ true → (o : Offset) → Memᴰ o os → f o ≡ true
unfolding all
all_at f [] t o m = absurd (mathlib.Core.List.Memᴰ.not-nil m)
all_at f (p ∷ os) t o m =
    ⊎_elim (λ e. rw e (and_first (f p) (all f os) t)) (λ q. all_at f os (and_second (f p) (all f os) t) o q) (mathlib.Core.List.Memᴰ.cases_cons m)

-- the offsets are the steps by 1 on all axes, or by 2 on one
fair : Offset → Bool
fair o = one_step (apart 2 o.0) (apart 2 o.1) (apart 2 o.2)

offsets_fair : all fair offsets ≡ true
unfolding all fair one_step offsets
offsets_fair = refl

pub neighbour_adjacent : (k l : ℕ) → Memᴰ l (neighbours k) → adjacent k l ≡ true
unfolding adjacent fair
neighbour_adjacent k l m =
    each k l offsets (adjacent k l ≡ true)
    (λ o i q.
    let p = parts k l o q in
    rw (
      head_led k l o q,
      x_led k l o q,
      y_led k l o q,
      z_led k l o q,
      move_apart (x_of k) o.0 p.0,
      move_apart (y_of k) o.1 p.1,
      move_apart (z_of k) o.2 p.2,
      eq-eqb (head_of k) (head_of k) refl,
    )
    (all_at fair offsets offsets_fair o i))
    m

-- the numbers that a test for three numbers shows
exactly : (a b c i j h : ℕ) → (eqb a i && (eqb b j && eqb c h)) ≡ true → (a ≡ i) × (b ≡ j) × (c ≡ h)
exactly a b c i j h e =
    let p = eqb a i in
    let q = eqb b j in
    let r = eqb c h in
    let s = and_second p (q && r) e in
    (eqb-true a i (and_first p (q && r) e), eqb-true b j (and_first q r s), eqb-true c h (and_second q r s))

-- a step is by 2 at most
step_small : (a b c : ℕ) → one_step a b c ≡ true → (a ≤ 2) × (b ≤ 2) × (c ≤ 2)
unfolding one_step
step_small a b c e =
    let t : ℕ → ℕ → ℕ → Bool = λ i j h. eqb a i && (eqb b j && eqb c h) in
    let small : (i j h : ℕ) → i ≤ 2 → j ≤ 2 → h ≤ 2 → t i j h ≡ true → (a ≤ 2) × (b ≤ 2) × (c ≤ 2) =
    λ i j h li lj lh d. let x = exactly a b c i j h d in (omega arith, omega arith, omega arith) in
    ⊎_elim (λ d. small 1 1 1 (lit≤ tt) (lit≤ tt) (lit≤ tt) d)
    (λ f. ⊎_elim (λ d. small 2 0 0 (lit≤ tt) (lit≤ tt) (lit≤ tt) d)
    (λ g. ⊎_elim (λ d. small 0 2 0 (lit≤ tt) (lit≤ tt) (lit≤ tt) d) (λ d. small 0 0 2 (lit≤ tt) (lit≤ tt) (lit≤ tt) d)
    (or_cases (t 0 2 0) (t 0 0 2) g))
    (or_cases (t 2 0 0) (t 0 2 0 || t 0 0 2) f))
    (or_cases (t 1 1 1) (t 2 0 0 || (t 0 2 0 || t 0 0 2)) e)

-- the step from x to y
module _ (x y : ℕ) (near : apart x y ≤ 2) where
  from_apart : apart x y ≡ apart 2 (y + 2 - x)
  from_apart = omega arith

  from_small : y + 2 - x < 5
  from_small = omega arith

  from_inside : y < 65536 → in_box x (y + 2 - x) ≡ true
  from_inside l = within x (y + 2 - x) (omega arith) (omega arith)

  from_to : move_to x (y + 2 - x) ≡ y
  from_to = omega arith

-- every fair offset of small steps is one of the 14: a test over all 125
known : ℕ → ℕ → ℕ → Bool
known a b c = not (fair (a, b, c)) || has (a, b, c) offsets

known_z : ℕ → ℕ → Bool
known_z a b = every (λ c x. known a b c) 0 (replicate 5 0)

known_y : ℕ → Bool
known_y a = every (λ b x. known_z a b) 0 (replicate 5 0)

all_known : T (every (λ a x. known_y a) 0 (replicate 5 0))
unfolding known known_z known_y fair one_step has alike offsets
all_known = tt

implied : (f h : Bool) → T (not f || h) → f ≡ true → h ≡ true
implied true true t e = refl
implied true false t e = absurd t
implied false h t e = absurd (false≢true e)

is_offset : (a b c : ℕ) → a < 5 → b < 5 → c < 5 → fair (a, b, c) ≡ true → has (a, b, c) offsets ≡ true
unfolding known known_z known_y
is_offset a b c la lb lc f =
    implied (fair (a, b, c)) (has (a, b, c) offsets)
    (below (λ c. known a b c) 5 (below (λ b. known_z a b) 5 (below known_y 5 all_known a la) b lb) c lc) f

-- the offset from k to l
from : ℕ → ℕ → Offset
from k l = (x_of l + 2 - x_of k, y_of l + 2 - y_of k, z_of l + 2 - z_of k)

pub adjacent_neighbour : (k l : ℕ) → adjacent k l ≡ true → Memᴰ l (neighbours k)
unfolding adjacent from fair Inside led
adjacent_neighbour k l e =
    let h = eqb (head_of k) (head_of l) in
    let a = apart (x_of k) (x_of l) in
    let b = apart (y_of k) (y_of l) in
    let c = apart (z_of k) (z_of l) in
    let heads : head_of k ≡ head_of l = eqb-true (head_of k) (head_of l) (and_first h (one_step a b c) e) in
    let step : one_step a b c ≡ true = and_second h (one_step a b c) e in
    let small = step_small a b c step in
    let sx = small.0 in
    let sy = small.1 in
    let sz = small.2 in
    let f : fair (from k l) ≡ true = rw (← from_apart (x_of k) (x_of l) sx, ← from_apart (y_of k) (y_of l) sy, ← from_apart (z_of k) (z_of l) sz) step in
    let m =
    has_mem (from k l) offsets
    (is_offset _ _ _ (from_small (x_of k) (x_of l) sx) (from_small (y_of k) (y_of l) sy) (from_small (z_of k) (z_of l) sz) f) in
    let i : Inside k (from k l) = (
      from_inside (x_of k) (x_of l) sx (coord_small l),
      from_inside (y_of k) (y_of l) sy (coord_small (l / 2)),
      from_inside (z_of k) (z_of l) sz (coord_small (l / 4)),
    ) in
    let key : led k (from k l) ≡ l = rw (from_to (x_of k) (x_of l) sx, from_to (y_of k) (y_of l) sy, from_to (z_of k) (z_of l) sz, heads) (key_of_parts l) in
    by k l (from k l) offsets m (reached_inside k (from k l) i ∙ ap Some key)

-- the offset that led to a key is the offset from k to it
back : (k l : ℕ) (o : Offset) → Memᴰ l (shown (reached k o)) → from k l ≡ o
unfolding from
back k l o m =
    let p = parts k l o m in
    rw (x_led k l o m, y_led k l o m, z_led k l o m, move_back (x_of k) o.0 p.0, move_back (y_of k) o.1 p.1, move_back (z_of k) o.2 p.2)

from_mem : (k l : ℕ) (os : List Offset) → Memᴰ l (neighbours_by k os) → Memᴰ (from k l) os
from_mem k l os m = each k l os (Memᴰ (from k l) os) (λ o i q. mathlib.Core.List.Memᴰ.cast (back k l o q) i) m

-- the offsets differ, so the neighbours do
differ : List Offset → Bool
differ [] = true
differ (o ∷ os) = not (has o os) && differ os

offsets_differ : differ offsets ≡ true
unfolding differ has alike offsets
offsets_differ = refl

with_cell : (k : ℕ) (o : Offset) (os : List Offset) (a : Option ℕ)
    → a ≡ reached k o
    → (Memᴰ o os → ⊥)
    → Distinct (neighbours_by k os)
    → Distinct (shown a ++ neighbours_by k os)
unfolding shown Ordered
with_cell k o os (Some l) e un d =
    let m : Memᴰ l (shown (reached k o)) = rw (← e) (mathlib.Core.List.Memᴰ.head refl) in
    (λ y t q. un (mathlib.Core.List.Memᴰ.cast (sym (back k l o m)) (from_mem k l os (mathlib.Core.List.Memᴰ.cast q t))), d)
with_cell k o os None e un d = d

distinct_by : (k : ℕ) (os : List Offset) → differ os ≡ true → Distinct (neighbours_by k os)
unfolding neighbours_by Ordered differ
distinct_by k [] t = tt
distinct_by k (o ∷ os) t =
    let new : not (has o os) ≡ true = and_first (not (has o os)) (differ os) t in
    let un : Memᴰ o os → ⊥ = λ m. false≢true (sym (not-true (has o os) new) ∙ mem_has o os m) in
    with_cell k o os (reached k o) refl un (distinct_by k os (and_second (not (has o os)) (differ os) t))

pub neighbours_distinct : (k : ℕ) → Distinct (neighbours k)
neighbours_distinct k = distinct_by k offsets offsets_differ

-- the neighbours of a lattice key are on the lattice
even_odd : Offset → Bool
even_odd o = same_parity o.0 o.1 o.2

offsets_even_odd : all even_odd offsets ≡ true
unfolding all even_odd same_parity offsets
offsets_even_odd = refl

move_parity : (x d : ℕ) → 2 ≤ x + d → move_to x d % 2 ≡ (x % 2 + d % 2) % 2
move_parity x d l =
    let e : move_to x d + 2 ≡ x + d = omega arith in
    sym (add-mod_right (move_to x d) 2) ∙ ap (λ (n : ℕ). n % 2) e ∙ add-mod x d 2

pub neighbour_on_lattice : (k l : ℕ) → on_lattice k ≡ true → Memᴰ l (neighbours k) → on_lattice l ≡ true
unfolding even_odd
neighbour_on_lattice k l on m =
    each k l offsets (on_lattice l ≡ true)
    (λ o i q.
    let p = parts k l o q in
    let ks = same_parity_lem (x_of k) (y_of k) (z_of k) on in
    let os = same_parity_lem o.0 o.1 o.2 (all_at even_odd offsets offsets_even_odd o i) in
    let mx = move_parity (x_of k) o.0 (inside_low (x_of k) o.0 p.0) in
    let my = move_parity (y_of k) o.1 (inside_low (y_of k) o.1 p.1) in
    let mz = move_parity (z_of k) o.2 (inside_low (z_of k) o.2 p.2) in
    on_xyz (x_of l) (y_of l) (z_of l)
    (rw (x_led k l o q, y_led k l o q, mx, my, ks.0, os.0))
    (rw (y_led k l o q, z_led k l o q, my, mz, ks.1, os.1)))
    m

pub adjacent_on_lattice : (k l : ℕ) → on_lattice k ≡ true → adjacent k l ≡ true → on_lattice l ≡ true
adjacent_on_lattice k l on a = neighbour_on_lattice k l on (adjacent_neighbour k l a)

-- away from the border every offset leads to a cell
steps_small : Offset → Bool
steps_small o = ltb o.0 5 && (ltb o.1 5 && ltb o.2 5)

offsets_small : all steps_small offsets ≡ true
unfolding all steps_small offsets
offsets_small = refl

far : (x d : ℕ) → 2 ≤ x → x ≤ 65533 → ltb d 5 ≡ true → in_box x d ≡ true
far x d l h s = let d5 = ltb-true d 5 s in within x d (omega arith) (omega arith)

module _ (k : ℕ) (lx : 2 ≤ x_of k) (hx : x_of k ≤ 65533) (ly : 2 ≤ y_of k) (hy : y_of k ≤ 65533) (lz : 2 ≤ z_of k) (hz : z_of k ≤ 65533) where
  inner : (o : Offset) → steps_small o ≡ true → reached k o ≡ Some (led k o)
  unfolding steps_small Inside
  inner o s =
      let a = ltb o.0 5 in
      let b = ltb o.1 5 in
      let c = ltb o.2 5 in
      let r = and_second a (b && c) s in
      reached_inside k o
      (far (x_of k) o.0 lx hx (and_first a (b && c) s), far (y_of k) o.1 ly hy (and_first b c r), far (z_of k) o.2 lz hz (and_second b c r))

  inner_by : (os : List Offset) → all steps_small os ≡ true → neighbours_by k os ≡ map (led k) os
  unfolding neighbours_by all shown
  inner_by [] t = refl
  inner_by (o ∷ os) t =
      rw (inner o (and_first (steps_small o) (all steps_small os) t), inner_by os (and_second (steps_small o) (all steps_small os) t))

  pub inner_neighbours : neighbours k ≡ map (led k) offsets
  inner_neighbours = inner_by offsets offsets_small

  pub inner_14 : length (neighbours k) ≡ 14
  unfolding offsets
  inner_14 = ap length inner_neighbours
