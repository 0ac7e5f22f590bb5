-- Where a cell's group stands in the list of groups: at as many places as there are edge ends with a smaller key.
-- Assumes nothing.
use Prim.Native.Nat.{ℕ, suc, ◌+◌, ◌≤◌, ◌<◌}
use native.Mathlib.Nat.{zero-add}
use native.Mathlib.Omega.{arith}
use mathlib.Core.Path.{◌≡◌, refl, sym, ap, ◌∙◌}
use mathlib.Core.Logic.{◌⊎◌, inl, inr, ⊎_elim}
use mathlib.Core.Bool.{Bool, true, false, cond, ◌||◌}
use mathlib.Core.List.Memᴰ
use mathlib.Core.List.{List, [], ◌∷◌, ◌++◌, append_assoc}
use lib.Dec.{eqb, ltb}
use lib.ListN.{length, length-append}
use lib.Seq.{take_at, drop_at}
use borrow.Author.Tests.{lt-ltb, le-ltb, eq-eqb, ne_eqb, le-leb, eqb-true}
use Rattle.lists.specs.Lists.{◌∈◌, Ordered, joined}
use Rattle.lists.proofs.ListLaws.{at_in}
use Rattle.edges.specs.Edges.{Edge, edge}
use Rattle.groups.specs.Groups.{touches, group_of, groups, one, start_of, count_of, part_of, edge_at, EndsAt}
use Rattle.handful.proofs.PlacingLaws.{compared}
use Rattle.groups.proofs.GroupLaws.{numbers_length, group_in_lem}

-- ---- one end

below_suc : (x d : ℕ) → one (ltb x (suc d)) ≡ one (ltb x d) + one (eqb x d)
below_suc x d =
    ⊎_elim (λ l. rw (lt-ltb x (suc d) (omega arith), lt-ltb x d l, ne_eqb x d (λ e. omega arith)))
    (λ r. ⊎_elim (λ l. rw (le-ltb x (suc d) (omega arith), le-ltb x d (omega arith), ne_eqb x d (λ e. omega arith)))
    (λ e. rw (lt-ltb x (suc d) (omega arith), le-ltb x d (omega arith), eq-eqb x d e)) r)
    (compared x d)

-- an end that lies on one side of two cells
same_side : (x lo d : ℕ) → lo ≤ d → (x < lo) ⊎ (d ≤ x) → one (ltb x d) ≡ one (ltb x lo)
same_side x lo d h (inl l) = rw (lt-ltb x d (omega arith), lt-ltb x lo l)
same_side x lo d h (inr g) = rw (le-ltb x d g, le-ltb x lo (omega arith))

-- two tests that do not both pass
one_or : (a b : Bool) → (a ≡ true → b ≡ true → ⊥) → one (a || b) ≡ one a + one b
one_or true true un = absurd (un refl refl)
one_or true false un = refl
one_or false true un = refl
one_or false false un = refl

touches_one : (d : ℕ) (e : Edge) → e.first < e.second → one (touches d e) ≡ one (eqb e.first d) + one (eqb e.second d)
touches_one d e l =
    one_or (eqb e.first d) (eqb e.second d)
    (λ p q. let x = eqb-true e.first d p in let y = eqb-true e.second d q in omega arith)

-- ---- all edges

-- every edge has its smaller key first
abbrev Upward : List Edge → Type 0
Upward es = (e : Edge) → e ∈ es → e.first < e.second

-- both ends of every edge are P
abbrev Each : (ℕ → Type 0) → List Edge → Type 0
Each P es = (e : Edge) → e ∈ es → P e.first × P e.second

start_suc : (d : ℕ) (es : List Edge) → Upward es → start_of (suc d) es ≡ start_of d es + count_of d es
unfolding start_of count_of
start_suc d [] u = refl
start_suc d (e ∷ es) u =
    let rest = start_suc d es (λ f m. u f (Memᴰ.tail m)) in
    let a = below_suc e.first d in
    let b = below_suc e.second d in
    let c = touches_one d e (u e (Memᴰ.head refl)) in
    omega arith

start_same : (lo d : ℕ) (es : List Edge) → lo ≤ d → Each (λ x. (x < lo) ⊎ (d ≤ x)) es → start_of d es ≡ start_of lo es
unfolding start_of
start_same lo d [] h s = refl
start_same lo d (e ∷ es) h s =
    let rest = start_same lo d es h (λ f m. s f (Memᴰ.tail m)) in
    let p = s e (Memᴰ.head refl) in
    let a = same_side e.first lo d h p.0 in
    let b = same_side e.second lo d h p.1 in
    omega arith

start_all : (lo : ℕ) (es : List Edge) → Each (λ x. x < lo) es → start_of lo es ≡ length es + length es
unfolding start_of
start_all lo [] s = refl
start_all lo (e ∷ es) s =
    let rest = start_all lo es (λ f m. s f (Memᴰ.tail m)) in
    let p = s e (Memᴰ.head refl) in
    rw (lt-ltb e.first lo p.0, lt-ltb e.second lo p.1) (omega arith)

start_zero : (es : List Edge) → start_of 0 es ≡ 0
unfolding start_of
start_zero [] = refl
start_zero (e ∷ es) = rw (le-ltb e.first 0 (omega arith), le-ltb e.second 0 (omega arith)) (omega (arith, start_zero es))

-- ---- the list of groups, from a cell on

module _ (es : List Edge) (u : Upward es) where
  -- the ends from lo on are among the cells, and the cells from lo on
  From : ℕ → List ℕ → Type 0
  From lo cells = Ordered ◌<◌ cells × ((x : ℕ) → x ∈ cells → lo ≤ x) × Each (λ x. (x < lo) ⊎ (x ∈ cells)) es

  from_rest : (lo d : ℕ) (ds : List ℕ) → From lo (d ∷ ds) → From (suc d) ds
  unfolding From Ordered
  from_rest lo d ds f =
      let low = f.1 d (Memᴰ.head refl) in
      let pass : (x : ℕ) → (x < lo) ⊎ (x ∈ (d ∷ ds)) → (x < suc d) ⊎ (x ∈ ds) =
      λ x. ⊎_elim (λ l. inl (omega arith)) (λ m. ⊎_elim (λ e. inl (omega arith)) (λ t. inr t) (Memᴰ.cases_cons m)) in
      (f.0.1, f.0.0, λ e m. let p = f.2 e m in (pass e.first p.0, pass e.second p.1))

  -- no end lies between lo and the first cell
  from_first : (lo d : ℕ) (ds : List ℕ) → From lo (d ∷ ds) → start_of d es ≡ start_of lo es
  unfolding From Ordered
  from_first lo d ds f =
      let low = f.1 d (Memᴰ.head refl) in
      let pass : (x : ℕ) → (x < lo) ⊎ (x ∈ (d ∷ ds)) → (x < lo) ⊎ (d ≤ x) =
      λ x. ⊎_elim (λ l. inl l) (λ m. inr (⊎_elim (λ e. omega arith) (λ t. omega (arith, f.0.0 x t)) (Memᴰ.cases_cons m))) in
      start_same lo d es low (λ e m. let p = f.2 e m in (pass e.first p.0, pass e.second p.1))

  -- each edge stands in two groups
  total : (cells : List ℕ) (lo : ℕ) → From lo cells → length (groups es cells) + start_of lo es ≡ length es + length es
  unfolding joined From
  total [] lo f =
      let none_in : (x : ℕ) → (x < lo) ⊎ (x ∈ []) → x < lo = λ x. ⊎_elim (λ l. l) (λ m. absurd (Memᴰ.not-nil m)) in
      omega (arith, start_all lo es (λ e m. let p = f.2 e m in (none_in e.first p.0, none_in e.second p.1)))
  total (d ∷ ds) lo f =
      let rest = total ds (suc d) (from_rest lo d ds f) in
      let a = from_first lo d ds f in
      let b = start_suc d es u in
      let c = numbers_length d 0 es in
      rw (length-append (group_of es d) (groups es ds)) (omega arith)

  -- what stands before a cell's group
  split : (cells : List ℕ) (lo : ℕ) → From lo cells → (cell : ℕ) → cell ∈ cells →
      (before : List ℕ) × (after : List ℕ) × (groups es cells ≡ before ++ (group_of es cell ++ after)) × (length before + start_of lo es ≡ start_of cell es)
  unfolding joined
  split [] lo f cell m = absurd (Memᴰ.not-nil m)
  split (d ∷ ds) lo f cell m =
      ⊎_elim
      (λ (e : cell ≡ d). (
        [],
        groups es ds,
        ap (λ (c : ℕ). group_of es c ++ groups es ds) (sym e),
        zero-add (start_of lo es) ∙ sym (from_first lo d ds f) ∙ ap (λ (c : ℕ). start_of c es) (sym e),
      ))
      (λ t.
      let rest = split ds (suc d) (from_rest lo d ds f) cell t in
      let a = from_first lo d ds f in
      let b = start_suc d es u in
      let c = numbers_length d 0 es in (
        group_of es d ++ rest.0,
        rest.1,
        ap (λ (l : List ℕ). group_of es d ++ l) rest.2 ∙ sym (append_assoc (group_of es d) rest.0 _),
        rw (length-append (group_of es d) rest.0) (omega (arith, rest.3)),
      ))
      (Memᴰ.cases_cons m)

cond_same : {A : Type 0} (b : Bool) (x : A) → cond b x x ≡ x
cond_same true x = refl
cond_same false x = refl

-- both ends of every edge are among the cells, which ascend
pub record Covers (es : List Edge) (cells : List ℕ) : Type 0 where
  pub upward : (e : Edge) → e ∈ es → e.first < e.second
  pub ends : (e : Edge) → e ∈ es → (e.first ∈ cells) × (e.second ∈ cells)
  pub ascending : Ordered ◌<◌ cells

module _ (es : List Edge) (cells : List ℕ) (h : Covers es cells) where
  all_from : From es h.upward 0 cells
  unfolding From
  all_from = (h.ascending, λ x m. omega arith, λ e m. let p = h.ends e m in (inr p.0, inr p.1))

  -- the list of groups has two places for each edge
  pub groups_length : length (groups es cells) ≡ length es + length es
  groups_length = omega (arith, total es h.upward cells 0 all_from, start_zero es)

  -- a cell with an edge is one of the cells
  pub cell_in : (i cell : ℕ) → EndsAt es i cell → cell ∈ cells
  cell_in i cell n =
      let p = h.ends (edge_at es i) (at_in es (edge 0 0) i n.numbered) in
      ⊎_elim (λ e. rw e at p.0) (λ e. rw e at p.1) n.ends

  -- the part of the list where a cell's group stands is its group, whatever follows the list
  pub group_part : (rest : List ℕ) (cell : ℕ) → part_of es cell (groups es cells ++ rest) ≡ group_of es cell
  unfolding part_of
  group_part rest cell = go (group_of es cell) refl
    where
      go : (g : List ℕ) → group_of es cell ≡ g → part_of es cell (groups es cells ++ rest) ≡ group_of es cell
      go [] q =
          let none : count_of cell es ≡ 0 = sym (numbers_length cell 0 es) ∙ ap length q in
          rw (none, cond_same) (sym q)
      go (i ∷ is) q =
          let m : i ∈ group_of es cell = rw q (Memᴰ.head refl) in
          let s = split es h.upward cells 0 all_from cell (cell_in i cell (group_in_lem es cell i m)) in
          let before = s.0 in
          let after = s.1 in
          let at : length before ≡ start_of cell es = omega (arith, s.3, start_zero es) in
          let long = numbers_length cell 0 es in
          let whole : groups es cells ++ rest ≡ before ++ (group_of es cell ++ (after ++ rest)) =
          rw (s.2, append_assoc before (group_of es cell ++ after) rest, append_assoc (group_of es cell) after rest) in
          let fits : start_of cell es + count_of cell es ≤ length (groups es cells ++ rest) =
          rw (whole, length-append before (group_of es cell ++ (after ++ rest)), length-append (group_of es cell) (after ++ rest)) (omega arith) in
          rw (le-leb _ _ fits, whole, drop_at before (group_of es cell ++ (after ++ rest)) (start_of cell es) at)
          (take_at (group_of es cell) (after ++ rest) (count_of cell es) long)
