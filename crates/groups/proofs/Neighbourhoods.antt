-- A cell's group by its neighbourhood: the numbers of the edges to its neighbours, put in order, are its group.
-- Assumes nothing.
use Rattle.std.specs.Prelude.{Some, None, Option}
use Prim.Native.Nat.{ℕ, suc, ◌-◌, ◌<◌, ◌≤◌, min, max}
use native.Mathlib.Omega.{arith}
use mathlib.Core.Path.{◌≡◌, refl, sym, ap, ◌∙◌}
use mathlib.Core.Logic.{◌⊎◌, inl, inr, ⊎_elim}
use mathlib.Core.Bool.{Bool, cond}
use mathlib.Core.List.Memᴰ
use mathlib.Core.List.{List, [], ◌∷◌}
use lib.ListN.{length, get_or, drop, replicate, length-drop, drop_of_length-le}
use lib.Seq.{drop-cons}
use Rattle.lists.specs.Lists.{◌∈◌, Ordered, Distinct}
use Rattle.lists.proofs.ListLaws.{at_in, ordered_at, ordered_weaken, map_ordered, one_order}
use Rattle.table.specs.Table.{Row}
use Rattle.edges.specs.Edges.{Edge, edge}
use Rattle.edges.specs.EdgeList.{pair_of, SamePair, Neighbourhood, Before, IsEdgeList}
use Rattle.edges.specs.Listing.{firsts}
use Rattle.lists.specs.Padding.{padded}
use Rattle.handful.specs.declared.Handful.{Handful}
use Rattle.handful.specs.Handfuls.{held, numbers_of, Roomy}
use Rattle.lists.proofs.Bools.{cases}
use Rattle.neighbors.specs.Neighbors.{neighbours}
use Rattle.neighbors.proofs.NeighborLaws.{at_most_14}
use Rattle.groups.specs.CellEdges.{edges_in, pairs_ok}
use Rattle.groups.specs.Near.{pair_number, with_number, gathered, near_group, group_in}
use Rattle.groups.specs.Groups.{group_of, edge_at, EndsAt}
use Rattle.groups.proofs.NumberLaws.{number_sound, number_complete}
use Rattle.handful.proofs.PlacingLaws.{compared, placed_length, placed_here, placed_kept, placed_only, placed_ordered, held_numbers, held_roomy}
use Rattle.groups.proofs.GroupLaws.{group_in_lem, in_group, group_ordered}

-- numbers in ascending order, exactly those of the edges that have the cell as an end, are its group
pub group_only :
    (es : List Edge) (cell : ℕ) (l : List ℕ)
    → Ordered ◌<◌ l
    → ((i : ℕ) → i ∈ l → EndsAt es i cell)
    → ((i : ℕ) → EndsAt es i cell → i ∈ l)
    → l ≡ group_of es cell
group_only es cell l o sound complete =
    one_order ◌<◌ (λ x y p q. omega arith) l (group_of es cell) o (group_ordered es cell)
    (λ i m. in_group es cell i (sound i m)) (λ i m. complete i (group_in_lem es cell i m))

-- the smaller and the larger of two keys, whichever is named first
pair_either : (a b : ℕ) → pair_of a b ≡ pair_of b a
pair_either a b = λ i. record { first = p i; second = q i }
  where
    p : min a b ≡ min b a
    p = omega arith

    q : max a b ≡ max b a
    q = omega arith

-- an end of the pair of a and b is a or b
pair_end : (a b c : ℕ) → ((pair_of a b).first ≡ c) ⊎ ((pair_of a b).second ≡ c) → (a ≡ c) ⊎ (b ≡ c)
pair_end a b c h = ⊎_elim (λ l. up l h) (λ r. ⊎_elim (λ l. down l h) (λ e. same e h) r) (compared a b)
  where
    up : a < b → (min a b ≡ c) ⊎ (max a b ≡ c) → (a ≡ c) ⊎ (b ≡ c)
    up l (inl e) = inl (omega arith)
    up l (inr e) = inr (omega arith)

    down : b < a → (min a b ≡ c) ⊎ (max a b ≡ c) → (a ≡ c) ⊎ (b ≡ c)
    down l (inl e) = inr (omega arith)
    down l (inr e) = inl (omega arith)

    same : a ≡ b → (min a b ≡ c) ⊎ (max a b ≡ c) → (a ≡ c) ⊎ (b ≡ c)
    same s (inl e) = inl (omega arith)
    same s (inr e) = inl (omega arith)

-- ---- what is gathered, on any edge list

pub absent_at : (i : ℕ) → None ≡ Some i → ⊥
absent_at i e = let z : ◌≡◌ {A = ℕ} 0 1 = cc in omega arith

module _ (look : ℕ → Option ℕ) where
  -- no more numbers than cells
  pub gathered_few : (others : List ℕ) → length (gathered look others) ≤ length others
  unfolding gathered with_number
  gathered_few [] = omega arith
  gathered_few (o ∷ others) = go (look o) (gathered_few others)
    where
      go : (f : Option ℕ) → length (gathered look others) ≤ length others → length (with_number f (gathered look others)) ≤ length (o ∷ others)
      go (Some i) h = omega (arith, placed_length i (gathered look others))
      go None h = omega arith

  -- each is found of one of the cells
  pub gathered_in : (others : List ℕ) (i : ℕ) → i ∈ gathered look others → (o : ℕ) × (o ∈ others) × (look o ≡ Some i)
  unfolding gathered with_number
  gathered_in [] i m = absurd (Memᴰ.not-nil m)
  gathered_in (o ∷ others) i m = go (look o) refl (λ t. let r = gathered_in others i t in (r.0, Memᴰ.tail r.1, r.2)) m
    where
      go : (f : Option ℕ) → look o ≡ f → (i ∈ gathered look others → (p : ℕ) × (p ∈ (o ∷ others)) × (look p ≡ Some i)) →
          i ∈ with_number f (gathered look others) → (p : ℕ) × (p ∈ (o ∷ others)) × (look p ≡ Some i)
      go (Some j) e rest t = ⊎_elim (λ q. (o, Memᴰ.head refl, e ∙ ap Some (sym q))) rest (placed_only j (gathered look others) i t)
      go None e rest t = rest t

  pub in_gathered : (others : List ℕ) (o i : ℕ) → o ∈ others → look o ≡ Some i → i ∈ gathered look others
  unfolding gathered with_number
  in_gathered [] o i m e = absurd (Memᴰ.not-nil m)
  in_gathered (p ∷ others) o i m e =
      ⊎_elim (λ q. here (look p) (ap look (sym q) ∙ e)) (λ t. there (look p) (in_gathered others o i t e)) (Memᴰ.cases_cons m)
    where
      here : (f : Option ℕ) → f ≡ Some i → i ∈ with_number f (gathered look others)
      here (Some j) q = let same : i ≡ j = cc in rw same (placed_here j (gathered look others))
      here None q = absurd (absent_at i q)

      there : (f : Option ℕ) → i ∈ gathered look others → i ∈ with_number f (gathered look others)
      there (Some j) t = placed_kept j (gathered look others) i t
      there None t = t

  -- ascending, where each cell is named once and none is found where another is
  pub gathered_ordered : ((a b i : ℕ) → look a ≡ Some i → look b ≡ Some i → a ≡ b) → (others : List ℕ) → Distinct others → Ordered ◌<◌ (gathered look others)
  unfolding gathered with_number Ordered
  gathered_ordered only [] d = tt
  gathered_ordered only (o ∷ others) d = go (look o) refl (gathered_ordered only others d.1)
    where
      go : (f : Option ℕ) → look o ≡ f → Ordered ◌<◌ (gathered look others) → Ordered ◌<◌ (with_number f (gathered look others))
      go (Some i) e rest =
          placed_ordered i (gathered look others) rest
          (λ t. let r = gathered_in others i t in d.0 r.0 r.1 (only o r.0 i e r.2))
      go None e rest = rest

-- an edge leads to one cell
pair_other : (cell a b : ℕ) → pair_of cell a ≡ pair_of cell b → a ≡ b
pair_other cell a b e =
    let low : min cell a ≡ min cell b = ap (λ (x : Edge). x.first) e in
    let top : max cell a ≡ max cell b = ap (λ (x : Edge). x.second) e in
    omega arith

-- no group worked out so has more than 14 numbers
pub group_few : (first second : List ℕ) (count cell : ℕ) → length (group_in first second count cell) ≤ 14
unfolding group_in
group_few first second count cell =
    cases (λ (b : Bool). length (cond b (near_group (edges_in first second count) cell) []) ≤ 14) (pairs_ok (length first) (length second) count)
    (λ e. omega (arith, gathered_few (pair_number (edges_in first second count) cell) (neighbours cell), at_most_14 cell))
    (λ e. omega arith)

-- ---- the loop, from the last cell down

pub gather_begun :
    (look : ℕ → Option ℕ) (others : List ℕ) (i : ℕ)
    → length others ≤ i
    → record { numbers = replicate 14 0; count = 0 } ≡ held (gathered look (drop i others))
unfolding gathered padded
gather_begun look others i h = rw (drop_of_length-le others {i = i} h)

module _ (look : ℕ → Option ℕ) (others : List ℕ) (i : ℕ) (g : Handful)
    (e : g ≡ held (gathered look (drop i others))) (up : 0 < i) (h : i ≤ length others) where
  pub gather_roomy : length others ≤ 14 → Roomy g
  gather_roomy m =
      rw e (held_roomy (gathered look (drop i others)) (omega (arith, gathered_few look (drop i others), length-drop i others)))

  pub gather_turn :
      (f : Option ℕ) (r : Handful)
      → f ≡ look (get_or others (i - 1) 0)
      → r ≡ held (with_number f (numbers_of g))
      → r ≡ held (gathered look (drop (i - 1) others))
  unfolding gathered
  gather_turn f r q t =
      let next : suc (i - 1) ≡ i = omega arith in
      let rest : drop (i - 1) others ≡ get_or others (i - 1) 0 ∷ drop i others =
      drop-cons others (i - 1) 0 (omega arith) ∙ ap (λ (k : ℕ). get_or others (i - 1) 0 ∷ drop k others) next in
      let held-now : numbers_of g ≡ gathered look (drop i others) =
      ap numbers_of e ∙ held_numbers (gathered look (drop i others)) in
      t ∙ ap (λ (y : Option ℕ). held (with_number y (numbers_of g))) q
      ∙ ap (λ (l : List ℕ). held (with_number (look (get_or others (i - 1) 0)) l)) held-now
      ∙ rw rest

-- ---- on the edge list of a table

module _ (near : ℕ → List ℕ) (adjacent : ℕ → ℕ → Bool) (crosses : Row → Row → Bool) (rows : List Row) (es : List Edge)
    (nb : Neighbourhood near adjacent) (h : IsEdgeList near adjacent crosses rows es) where
  -- an edge has one number
  pub one_number : (i j : ℕ) → i < length es → j < length es → edge_at es i ≡ edge_at es j → i ≡ j
  one_number i j p q e =
      ⊎_elim (λ l. absurd (other i j l q e)) (λ r. ⊎_elim (λ l. absurd (other j i l p (sym e))) (λ s. s) r) (compared i j)
    where
      other : (i j : ℕ) → i < j → j < length es → edge_at es i ≡ edge_at es j → ⊥
      other i j l k e =
          ordered_at (λ x y. SamePair x y → ⊥) es (edge 0 0) h.once i j l k (inl (ap (λ (x : Edge). x.first) e, ap (λ (x : Edge). x.second) e))

  -- an edge that has a cell as an end leads to a neighbour of it
  pub to_neighbour : (i cell : ℕ) → EndsAt es i cell → (n : ℕ) × (n ∈ near cell) × (edge_at es i ≡ pair_of cell n)
  to_neighbour i cell n =
      let c = h.only (edge_at es i) (at_in es (edge 0 0) i n.numbered) in
      let a = c.0.key in
      let b = c.1.key in
      let ends : ((pair_of a b).first ≡ cell) ⊎ ((pair_of a b).second ≡ cell) = rw c.3 at n.ends in
      ⊎_elim
      (λ e. (b, rw e at ((nb.exactly a b).1 c.2.adjacency), c.3 ∙ ap (λ (k : ℕ). pair_of k b) e))
      (λ e. (a, rw e at ((nb.exactly b a).1 (nb.both b a ∙ c.2.adjacency)), c.3 ∙ pair_either a b ∙ ap (λ (k : ℕ). pair_of k a) e))
      (pair_end a b cell ends)

  -- the first keys ascend, so a row's own edges stand together and are found by halves
  pub firsts_ascend : Ordered ◌≤◌ (firsts es)
  firsts_ascend =
      map_ordered ◌≤◌ (λ (e : Edge). e.first) es
      (ordered_weaken (Before near) (λ e f. e.first ≤ f.first) es (λ e f i j b. ⊎_elim (λ l. omega arith) (λ p. omega (arith, p.0)) b) h.ordered)

  -- what is gathered from a cell's neighbours is its group
  pub gathered_is_group : (cell : ℕ) → gathered (pair_number es cell) (near cell) ≡ group_of es cell
  gathered_is_group cell =
      group_only es cell (gathered (pair_number es cell) (near cell)) (gathered_ordered (pair_number es cell) one_other (near cell) (nb.once cell))
      (λ i m.
      let r = gathered_in (pair_number es cell) (near cell) i m in
      let s = number_sound (min cell r.0) (max cell r.0) es i r.2 in
      record { numbered = s.0; ends = rw s.1 (end_of cell r.0) })
      (λ i h.
      let t = to_neighbour i cell h in
      let f = number_complete (min cell t.0) (max cell t.0) es firsts_ascend i h.numbered t.2 in
      let s = number_sound (min cell t.0) (max cell t.0) es f.0 f.1 in
      let same : f.0 ≡ i = one_number f.0 i s.0 h.numbered (s.1 ∙ sym t.2) in
      in_gathered (pair_number es cell) (near cell) t.0 i t.1 (f.1 ∙ ap Some same))
    where
      one_other : (a b i : ℕ) → pair_number es cell a ≡ Some i → pair_number es cell b ≡ Some i → a ≡ b
      one_other a b i e f =
          pair_other cell a b
          (sym (number_sound (min cell a) (max cell a) es i e).1 ∙ (number_sound (min cell b) (max cell b) es i f).1)

      end_of : (a b : ℕ) → (min a b ≡ a) ⊎ (max a b ≡ a)
      end_of a b = ⊎_elim (λ l. inl (omega arith)) (λ r. inr (⊎_elim (λ l. omega arith) (λ e. omega arith) r)) (compared a b)
