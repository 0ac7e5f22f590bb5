-- Counting the edge list: what is left says what the whole says.
-- Assumes nothing.
use Prim.Native.Nat.{ℕ, zero, suc, ◌+◌, ◌-◌, ◌≤◌, ◌<◌}
use native.Mathlib.Nat.{not-suc-le-zero, le_of_suc-le-suc, suc-ne-zero, suc_inj, add-sub_cancel_left}
use native.Mathlib.Omega.{arith}
use mathlib.Core.Path.{◌≡◌, refl, sym, ap, subst}
use mathlib.Core.Logic.{◌⊎◌, inl, inr}
use mir.Val.{bool_byte}
use mathlib.Core.Bool.{Bool, true, false, cond, ◌&&◌, ◌||◌}
use mathlib.Core.List.{List, [], ◌∷◌, ◌++◌}
use lib.Dec.{ltb, eqb, leb}
use lib.ListN.{length, get_or, take, drop, length-take, drop_of_length-le}
use Rattle.edges.specs.Edges.{Edge, edge}
use Rattle.edges.specs.Listing.{firsts, seconds}
use Rattle.groups.specs.Groups.{touches, one, start_of, count_of, part_of}
use Rattle.groups.specs.CellEdges.{paired, edges_in, pairs_ok, edge_lists_ok, cell_span, cell_edges}
use Rattle.groups.specs.Steps.{Pairs}
use Rattle.ids.specs.Key.{on_lattice}
use Rattle.groups.specs.declared.Span.{Span}
use Rattle.lists.proofs.Bools.{and_first, and_second}
use borrow.Author.Tests.{eqb-true, leb-true}

one_small : (b : Bool) → one b ≤ 1
one_small true = omega arith
one_small false = omega arith

-- the counts are small
start_most : (cell : ℕ) (es : List Edge) → start_of cell es ≤ length es + length es
unfolding start_of
start_most cell [] = omega arith
start_most cell (e ∷ es) = omega (arith, start_most cell es, one_small (ltb e.first cell), one_small (ltb e.second cell))

count_most : (cell : ℕ) (es : List Edge) → count_of cell es ≤ length es
unfolding count_of
count_most cell [] = omega arith
count_most cell (e ∷ es) = omega (arith, count_most cell es, one_small (touches cell e))

pub ends_few : (first second : List ℕ) (n cell : ℕ) → n ≤ 1048576 → start_of cell (edges_in first second n) + count_of cell (edges_in first second n) ≤ 4194304
ends_few first second n cell h =
    omega (arith, start_most cell (edges_in first second n), count_most cell (edges_in first second n), length-take n (paired first second))

-- ---- a loop that counts the ends, by what is left of the two columns

paired_take : (n : ℕ) (xs ys : List ℕ) → paired (take n xs) (take n ys) ≡ take n (paired xs ys)
unfolding paired
paired_take zero xs ys = refl
paired_take (suc n) [] ys = refl
paired_take (suc n) (x ∷ xs) [] = refl
paired_take (suc n) (x ∷ xs) (y ∷ ys) = ap {B = List Edge} (λ r. edge x y ∷ r) (paired_take n xs ys)

unpaired : (xs : List ℕ) → paired xs [] ≡ []
unfolding paired
unpaired [] = refl
unpaired (x ∷ xs) = refl

byte_one : (b : Bool) → bool_byte b ≡ one b
byte_one true = refl
byte_one false = refl

-- of es, of which there are at most n, those paired of xs and ys are not yet counted
pub record Counting (cell n : ℕ) (es : List Edge) (below here : ℕ) (xs ys : List ℕ) : Type 0 where
  pub ends : below + (length (paired xs ys) + length (paired xs ys)) ≤ n + n
  pub own : here + length (paired xs ys) ≤ n
  pub start : start_of cell es ≡ below + start_of cell (paired xs ys)
  pub count : count_of cell es ≡ here + count_of cell (paired xs ys)

pub counting_begun : (cell n : ℕ) (first second : List ℕ) {xs ys : List ℕ} → xs ≡ take n first → ys ≡ take n second
    → Counting cell n (edges_in first second n) 0 0 xs ys
counting_begun cell n first second {xs} {ys} e f =
    let few : length (edges_in first second n) ≤ n = omega (arith, length-take n (paired first second)) in
    let whole : paired xs ys ≡ edges_in first second n = rw (e, f) (paired_take n first second) in
    record {
      ends = rw whole (omega arith);
      own = rw whole (omega arith);
      start = rw whole (omega arith);
      count = rw whole (omega arith);
    }

module _ (cell n : ℕ) (es : List Edge) (below here : ℕ) (xs ys : List ℕ) (h : Counting cell n es below here xs ys) where
  pub counting_more : (x y : ℕ) (as' bs : List ℕ) → xs ≡ x ∷ as' → ys ≡ y ∷ bs
      → Counting cell n es (below + (bool_byte (ltb x cell) + bool_byte (ltb y cell))) (here + bool_byte (eqb x cell || eqb y cell)) as' bs
  unfolding paired start_of count_of
  counting_more x y as' bs e f =
      let k : Counting cell n es below here (x ∷ as') (y ∷ bs) = subst (λ (l : List ℕ). Counting cell n es below here (x ∷ as') l) f (rw e at h) in
      let p = byte_one (ltb x cell) in
      let q = byte_one (ltb y cell) in
      let r = byte_one (eqb x cell || eqb y cell) in
      let ps = one_small (ltb x cell) in
      let qs = one_small (ltb y cell) in
      let rs = one_small (eqb x cell || eqb y cell) in
      record {
        ends = omega (arith, k.ends);
        own = omega (arith, k.own);
        start = omega (arith, k.start);
        count = omega (arith, k.count);
      }

  pub counting_done : (xs ≡ []) ⊎ (ys ≡ []) → (below ≡ start_of cell es) × (here ≡ count_of cell es)
  unfolding paired start_of count_of
  counting_done (inl e) =
      let s = rw e at h.start in
      let t = rw e at h.count in
      (omega (arith, s), omega (arith, t))
  counting_done (inr f) =
      let s = rw (f, unpaired xs) at h.start in
      let t = rw (f, unpaired xs) at h.count in
      (omega (arith, s), omega (arith, t))

-- the edge at a place, and those after it
pub edge_next : (first second : List ℕ) (n i : ℕ)
    → length second ≡ length first
    → i < n
    → n ≤ length first
    → drop i (edges_in first second n) ≡ edge (get_or first i 0) (get_or second i 0) ∷ drop (suc i) (edges_in first second n)
unfolding paired
edge_next first second zero i p h g = absurd (not-suc-le-zero h)
edge_next [] second (suc n) i p h g = absurd (not-suc-le-zero g)
edge_next (a ∷ first) [] (suc n) i p h g = absurd (suc-ne-zero _ (sym p))
edge_next (a ∷ first) (b ∷ second) (suc n) zero p h g = refl
edge_next (a ∷ first) (b ∷ second) (suc n) (suc i) p h g = edge_next first second n i (suc_inj p) (le_of_suc-le-suc h) (le_of_suc-le-suc g)

pub none_left : (first second : List ℕ) (n i : ℕ) → n ≤ i → drop i (edges_in first second n) ≡ []
none_left first second n i h = drop_of_length-le (edges_in first second n) {i = i} (omega (arith, length-take n (paired first second)))

-- the columns of an edge list, whatever follows them, give it back
pub edges_back : (es : List Edge) (xs ys : List ℕ) → edges_in (firsts es ++ xs) (seconds es ++ ys) (length es) ≡ es
unfolding paired
edges_back [] xs ys = refl
edges_back (e ∷ es) xs ys = ap {B = List Edge} (λ r. e ∷ r) (edges_back es xs ys)

-- ---- where the group stands

-- lengths that pass
pub pairs_known : (first second : List ℕ) (n : ℕ) → pairs_ok (length first) (length second) n ≡ true → Pairs first second n
pairs_known first second n e =
    let s = and_second (eqb (length first) (length second)) _ e in
    record {
      fits = leb-true n (length first) (and_second (leb (length first) 1048576) _ s);
      equal = sym (eqb-true (length first) (length second) (and_first _ _ e));
      few = leb-true (length first) 1048576 (and_first _ _ s);
    }

pub lists_known : (groups : ℕ) (first second : List ℕ) (n : ℕ) → edge_lists_ok groups (length first) (length second) n ≡ true → Pairs first second n
lists_known groups first second n e = pairs_known first second n (and_second (leb groups 1048576) _ e)

nowhere : Span
nowhere = record { start = 0; end = 0 }

-- a span is within the list, and the part of it that is meant
Of : List ℕ → Span → List ℕ → Type 0
Of groups s part = (s.start ≤ s.end) × (s.end ≤ length groups) × (take (s.end - s.start) (drop s.start groups) ≡ part)

span_of : (groups : List ℕ) (start count : ℕ) (b : Bool)
    → leb (start + count) (length groups) ≡ b
    → Of groups (cond b (record { start = start; end = start + count }) nowhere)
    (cond b (take count (drop start groups)) [])
unfolding Of nowhere
span_of groups start count true e = (omega arith, leb-true (start + count) (length groups) e, rw (add-sub_cancel_left start count))
span_of groups start count false e = (omega arith, omega arith, refl)

span_if : (groups : List ℕ) (b : Bool) (s : Span) (part : List ℕ) → Of groups s part → Of groups (cond b s nowhere) (cond b part [])
unfolding Of nowhere
span_if groups true s part h = h
span_if groups false s part h = (omega arith, omega arith, refl)

pub cell_of : (groups first second : List ℕ) (count cell : ℕ) →
    let s = cell_span (length groups) first second count cell in
    (s.start ≤ s.end) × (s.end ≤ length groups) × (take (s.end - s.start) (drop s.start groups) ≡ cell_edges groups first second count cell)
unfolding Of nowhere cell_span cell_edges part_of
cell_of groups first second count cell =
    span_if groups (edge_lists_ok (length groups) (length first) (length second) count && on_lattice cell) _ _
    (span_of groups (start_of cell (edges_in first second count)) (count_of cell (edges_in first second count)) _ refl)
