-- Marks of waiting cells are taken out one after the other, until none is left. Assumes nothing.
use Rattle.std.specs.Prelude.{Ok, Err}
use mathlib.Core.Path.{◌≡◌, refl, sym, ap, subst, ◌∙◌}
use mathlib.Core.Bool.{Bool, true, false, cond, not, ◌&&◌, ◌||◌, true≢false}
use mathlib.Core.List.{List, [], ◌∷◌}
use Prim.Native.Nat.{ℕ, suc, ◌+◌, ◌/◌, ◌-◌, ◌<◌, ◌≤◌, zero-le, suc-le-suc}
use native.Mathlib.Numerals.{add-one}
use native.Mathlib.Omega.{arith}
use borrow.Author.Tests.{eqb-true, eqb-false, eq-eqb, ne_eqb, leb-true, leb-false, le-leb, lt-leb}
use lib.Dec.{eqb, leb}
use lib.ListN.{length, take, drop, get_or, length-map, drop_of_length-le}
use lib.Seq.{drop-cons, get_or-take, length-take-le}
use lib.Ieee.{Float, nan}
use Rattle.floats.specs.Floats.{is_finite}
use Rattle.heap.specs.Heap.{cell_at, Heaped}
use Rattle.heap.proofs.Tallies.{tally_some, some_tally, count_some, some_count}
use Rattle.lists.specs.Lists.{◌∈◌, kept}
use Rattle.lists.proofs.Bools.{cases}
use Rattle.lists.proofs.ListLaws.{in_map, map_in, at_in}
use Rattle.marks.specs.Marks.{label, spot_of, look, Kept, Leaves}
use Rattle.marks.proofs.Keeping.{label_own, value_at_lem, value_absent}
use Rattle.search.specs.Keys.{member}
use Rattle.marching.specs.March.{MarchedRow, Cell, cells_of, distance_of}
use Rattle.marching.proofs.Spreading.{member_in, in_member}
use Rattle.hearing.specs.Hearing.{or_waits, Marked}
use Rattle.hearing.proofs.Fitting.{in_at, marks_fit}
use Rattle.hearing.proofs.Saying.{known_at, unmarked, said_some, said_none}
use Rattle.hearing.proofs.Walking.{real_key}
use Rattle.fronts.specs.Fronts.{marking, Held}
use Rattle.thinning.specs.Thinning.{all_but, Thins, has_room, kind_of, Lightens}

-- ---- the cells but for one

but_member : (k : ℕ) (ws : List ℕ) (j : ℕ) → member j (all_but k ws) ≡ not (eqb k j) && member j ws
unfolding kept member
but_member k [] j = cases (λ (b : Bool). false ≡ not b && false) (eqb k j) (λ _. refl) (λ _. refl)
but_member k (w ∷ ws) j =
    cases (λ (b : Bool). eqb w k ≡ b → member j (cond (not b) (w ∷ all_but k ws) (all_but k ws)) ≡ not (eqb k j) && (eqb w j || member j ws)) (eqb w k)
    (λ _ e. but_member k ws j ∙ same (eqb k j) (eqb w j) (member j ws) (λ q. eq_or e q))
    (λ _ e. rw (but_member k ws j) (other (eqb k j) (eqb w j) (member j ws) (λ p q. apart e p q))) refl
  where
    eq_or : eqb w k ≡ true → eqb k j ≡ false → eqb w j ≡ false
    eq_or e q = ne_eqb w j (λ z. eqb-false k j q (sym (eqb-true w k e) ∙ z))

    apart : eqb w k ≡ false → eqb k j ≡ true → eqb w j ≡ true → ⊥
    apart e p q = eqb-false w k e (eqb-true w j q ∙ sym (eqb-true k j p))

    same : (a b c : Bool) → (a ≡ false → b ≡ false) → not a && c ≡ not a && (b || c)
    same true b c h = refl
    same false b c h = rw (h refl)

    other : (a b c : Bool) → (a ≡ true → b ≡ true → ⊥) → b || (not a && c) ≡ not a && (b || c)
    other true true c h = absurd (h refl refl)
    other true false c h = refl
    other false b c h = refl

but_few : (k : ℕ) (ws : List ℕ) → length (all_but k ws) ≤ length ws
unfolding kept
but_few k [] = zero-le
but_few k (w ∷ ws) =
    cases (λ (b : Bool). length (cond (not b) (w ∷ all_but k ws) (all_but k ws)) ≤ suc (length ws)) (eqb w k)
    (λ _. let l = but_few k ws in omega arith) (λ _. suc-le-suc (but_few k ws))

-- ---- one mark

module _ (k : ℕ) (real : k ≡ 1 → ⊥) (rs : List MarchedRow) (ws ks : List ℕ) (ds : List Float) (h : Marked rs ws ks ds) where
  but_marked :
      (ks' : List ℕ) (ds' : List Float)
      → Kept ks'
      → length ds' ≡ length ks'
      → look k ks' ds' ≡ or_waits (distance_of k rs) false
      → ((j : ℕ) → (label j ≡ label k → ⊥) → look j ks' ds' ≡ look j ks ds)
      → Marked rs (all_but k ws) ks' ds'
  but_marked ks' ds' kept' long here others =
      record {
        marks =
            λ j n.
            cases (λ (b : Bool). eqb k j ≡ b → look j ks' ds' ≡ or_waits (distance_of j rs) (not b && member j ws)) (eqb k j)
            (λ _ e. let z = eqb-true k j e in rw (← z) here)
            (λ _ e. others j (λ q. eqb-false k j e (sym (label_own j k n real q))) ∙ h.marks j n) refl
            ∙ rw (but_member k ws j);
        kept = kept';
        long = long;
        finite = h.finite;
        ascends = h.ascends;
      }

  pub forget_absent : (p : ℕ) → spot_of k ks ≡ Err p → Marked rs (all_but k ws) ks ds
  unfolding or_waits
  forget_absent p e =
      let none_there = value_absent (label k) ks ds p e in
      but_marked ks ds h.kept h.long (none_there ∙ rw (unmarked rs ws ks ds h k real none_there).0) (λ j n. refl)

  module _ (p : ℕ) (at : spot_of k ks ≡ Ok p) where
    pub forget_stored : is_finite (get_or ds p nan) ≡ true → Marked rs (all_but k ws) ks ds
    unfolding or_waits
    forget_stored f =
        let d = said_some (get_or ds p nan) (distance_of k rs) (known_at rs ws ks ds h k real p at) f in
        but_marked ks ds h.kept h.long (value_at_lem (label k) ks ds p at ∙ rw d) (λ j n. refl)

    pub forget_waiting :
        is_finite (get_or ds p nan) ≡ false
        → length rs + length ws < length ks
        → (ks' : List ℕ) (ds' : List Float)
        → Leaves p ks ds ks' ds'
        → Marked rs (all_but k ws) ks' ds'
    unfolding or_waits
    forget_waiting f few ks' ds' left =
        let d = said_none (get_or ds p nan) (distance_of k rs) (known_at rs ws ks ds h k real p at) f in
        let g = left k at (record { kept = h.kept; long = h.long; room = let m = marks_fit rs ws ks ds h in omega arith }) in
        but_marked ks' ds' g.kept (g.values ∙ sym g.places) (g.value ∙ rw d) g.others

-- ---- the loop

-- the marks of waiting cells that are left are those of cells from place i on
abbrev pub Thinning : ℕ → List ℕ → List ℕ → List Float → ℕ → List ℕ → List Float → Type 0
Thinning w cs ks₀ ds₀ i ks ds =
    (rs : List MarchedRow) (ws : List ℕ)
    → Marked rs ws ks₀ ds₀
    → ((j : ℕ) → member j ws ≡ true → member j (take w cs) ≡ true)
    → ((j : ℕ) → member j (take w cs) ≡ true → j ≡ 1 → ⊥)
    → (0 < w → length rs + length ws < length ks₀)
    → (vs : List ℕ) × (Marked rs vs ks ds × (((j : ℕ) → member j vs ≡ true → member j (drop i (take w cs)) ≡ true) × (length vs ≤ length ws)))

module _ (w : ℕ) (cs ks₀ : List ℕ) (ds₀ : List Float) where
  pub thin_begun : Thinning w cs ks₀ ds₀ 0 ks₀ ds₀
  thin_begun rs ws h own real few = (ws, (h, (own, omega arith)))

  module _ (i : ℕ) (ks : List ℕ) (ds : List Float) (so_far : Thinning w cs ks₀ ds₀ i ks ds) (fits : w ≤ length cs) where
    pub thin_more :
        i < w
        → length ks ≡ length ks₀
        → (ks' : List ℕ) (ds' : List Float)
        → ((rs : List MarchedRow) (ws : List ℕ)
        → Marked rs ws ks ds
        → length rs + length ws < length ks
        → (get_or cs i 0 ≡ 1 → ⊥)
        → Marked rs (all_but (get_or cs i 0) ws) ks' ds')
        → Thinning w cs ks₀ ds₀ (i + 1) ks' ds'
    unfolding member
    thin_more l long ks' ds' did rs ws h own real few =
        let x = so_far rs ws h own real few in
        let n : i < length (take w cs) = rw (length-take-le w cs fits) l in
        let here : drop i (take w cs) ≡ get_or cs i 0 ∷ drop (suc i) (take w cs) =
        drop-cons (take w cs) i 0 n ∙ ap (λ (y : ℕ). y ∷ drop (suc i) (take w cs)) (get_or-take w cs i 0 l) in
        let in_list : member (get_or cs i 0) (take w cs) ≡ true =
        in_member (get_or cs i 0) (take w cs) (subst (λ (y : ℕ). y ∈ take w cs) (get_or-take w cs i 0 l) (at_in (take w cs) 0 i n)) in
        let fewer = but_few (get_or cs i 0) x.0 in
        let shorter = x.1.1.1 in
        let enough = few (omega arith) in (
          all_but (get_or cs i 0) x.0,
          (
            did rs x.0 x.1.0 (omega arith) (real (get_or cs i 0) in_list),
            (
              λ j m.
                  rw (add-one i)
                  (left (eqb (get_or cs i 0) j) (member j x.0) (member j (drop (suc i) (take w cs))) (sym (but_member (get_or cs i 0) x.0 j) ∙ m)
                  (λ q. sym (ap (member j) here) ∙ x.1.1.0 j q)),
              omega arith,
            ),
          ),
        )
      where
        left : (a b c : Bool) → not a && b ≡ true → (b ≡ true → a || c ≡ true) → c ≡ true
        left true b c p h = absurd (true≢false (sym p))
        left false true c p h = h refl
        left false false c p h = absurd (true≢false (sym p))

    pub thin_done : w ≤ i → Thins w cs ks₀ ds₀ ks ds
    unfolding member
    thin_done l rs ws h own real few =
        let x = so_far rs ws h own real few in
        let none_left : drop i (take w cs) ≡ [] = drop_of_length-le (take w cs) {i = i} (rw (length-take-le w cs fits) l) in
        subst (λ (v : List ℕ). Marked rs v ks ds) (nil x.0 (λ j m. true≢false (sym (x.1.1.0 j m) ∙ ap (member j) none_left))) x.1.0
      where
        nil : (vs : List ℕ) → ((j : ℕ) → member j vs ≡ true → ⊥) → vs ≡ []
        nil [] n = refl
        nil (v ∷ vs) n = absurd (n v (rw (eq-eqb v v refl)))

-- ---- the cells of a heap

module _ (ws : List Cell) (w : ℕ) (es : List Float) (cs : List ℕ) (h : Heaped ws w es cs) where
  abbrev is : ℕ → Cell → Bool
  is j c = eqb c.key j

  -- each waiting cell stands among the first w of the list
  pub waiting_there : (j : ℕ) → member j (cells_of ws) ≡ true → member j (take w cs) ≡ true
  waiting_there j m =
      let x = map_in (λ (c : Cell). c.key) ws (member_in j (cells_of ws) m) in
      let t = some_tally (is j) (cell_at es cs) w (rw (h.holds (is j)) (count_some (is j) ws x.1 (eq-eqb x.0.key j (sym x.2)))) in
      let n : t.0 < length (take w cs) = rw (length-take-le w cs h.fits) t.1.0 in
      in_member j (take w cs)
      (subst (λ (y : ℕ). y ∈ take w cs) (get_or-take w cs t.0 0 t.1.0 ∙ eqb-true (get_or cs t.0 0) j t.1.1) (at_in (take w cs) 0 t.0 n))

  -- and each of those waits
  pub there_waiting : (j : ℕ) → member j (take w cs) ≡ true → member j (cells_of ws) ≡ true
  there_waiting j m =
      let i = in_at (take w cs) (member_in j (take w cs) m) in
      let l : i.0 < w = let a = i.1.0 in let b = length-take-le w cs h.fits in omega arith in
      let e : get_or cs i.0 0 ≡ j = sym (get_or-take w cs i.0 0 l) ∙ i.1.1 in
      let c = some_count (is j) ws (rw (← h.holds (is j)) (tally_some (is j) (cell_at es cs) i.0 w l (eq-eqb (get_or cs i.0 0) j e))) in
      in_member j (cells_of ws) (subst (λ (y : ℕ). y ∈ cells_of ws) (eqb-true c.0.key j c.1.1) (in_map (λ (x : Cell). x.key) ws c.1.0))

-- ---- which kind the next step is

pub room_none : (places n w : ℕ) → places < n + w + (places / 32 + 16) → false ≡ has_room places n w
room_none places n w l = sym (lt-leb (n + w + (places / 32 + 16)) places l)

pub room_there : (places n w : ℕ) (b : Bool) → b ≡ leb w (places - (places / 32 + 16) - n) → places / 32 + 16 ≤ places → n ≤ places - (places / 32 + 16)
    → b ≡ has_room places n w
room_there places n w b e p q =
    e
    ∙ cases (λ (t : Bool). leb w (places - (places / 32 + 16) - n) ≡ t → t ≡ has_room places n w) (leb w (places - (places / 32 + 16) - n))
    (λ _ t. let l = leb-true w (places - (places / 32 + 16) - n) t in sym (le-leb (n + w + (places / 32 + 16)) places (omega arith)))
    (λ _ t. let l = leb-false w (places - (places / 32 + 16) - n) t in sym (lt-leb (n + w + (places / 32 + 16)) places (omega arith))) refl

-- what the tests say of the kind
module _ (lean : Bool) (places n w : ℕ) where
  pub kind_lean : lean ≡ true → true ≡ kind_of lean places n w
  kind_lean e = rw e

  pub kind_by : lean ≡ false → (b : Bool) → b ≡ has_room places n w → (t : Bool) → b ≡ t → not t ≡ kind_of lean places n w
  kind_by e b room t f = rw (e, ← room, f)

-- a step's marks have a place in a march that stays with marks of waiting cells
pub roomy : (lean : Bool) (places n w : ℕ) (r : Bool) → r ≡ kind_of lean places n w → r ≡ false → n + w + 16 ≤ places
roomy true places n w r e f = absurd (true≢false (sym e ∙ f))
roomy false places n w r e f =
    cases (λ (b : Bool). has_room places n w ≡ b → not b ≡ false → n + w + 16 ≤ places) (has_room places n w)
    (λ _ t _. let l = leb-true (n + w + (places / 32 + 16)) places t in omega arith) (λ _ t g. absurd (true≢false g)) refl (sym e ∙ f)

module _ (n w : ℕ) (cs ks : List ℕ) (ds : List Float) where
  pub lean_stays : (lean : Bool) → lean ≡ true → Lightens lean n w cs ks ds true ks ds
  lean_stays lean e s es h spare = subst (λ (b : Bool). Held b s n ks ds w es cs) e h

  pub marks_stay : (lean : Bool) → lean ≡ false → Lightens lean n w cs ks ds false ks ds
  marks_stay lean e s es h spare = subst (λ (b : Bool). Held b s n ks ds w es cs) e h

  pub goes_lean : (lean : Bool) → lean ≡ false → (ks' : List ℕ) (ds' : List Float) → Thins w cs ks ds ks' ds' → Lightens lean n w cs ks ds true ks' ds'
  unfolding marking
  goes_lean lean e ks' ds' thins s es h spare =
      let f : Held false s n ks ds w es cs = subst (λ (b : Bool). Held b s n ks ds w es cs) e h in
      let g = f.front in
      record {
        front = record {
          marked =
              thins s.stored (cells_of s.waiting) g.marked (waiting_there s.waiting w es cs g.heap)
              (λ j m. real_key j (g.lattice j (there_waiting s.waiting w es cs g.heap j m)))
              (λ l.
              let a = spare e l in
              let b = length-map s.waiting (λ (c : Cell). c.key) in
              let c = f.count in
              let d = g.heap.counted in
              omega arith);
          heap = g.heap;
          lattice = g.lattice;
        };
        count = f.count;
      }
