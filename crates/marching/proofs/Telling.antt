-- Who waits is told by the stored neighbours that have spread: after a row is stored, of its neighbours; and seeds are looked up in the fused table.
-- Assumes nothing.
use Rattle.std.specs.Prelude.{Some, None, Option}
use mathlib.Core.Path.{◌≡◌, refl, sym, ap, ◌∙◌}
use mathlib.Core.Bool.{Bool, true, false, cond, ◌||◌, or-true, true≢false}
use mathlib.Core.List.{List, [], ◌∷◌}
use Prim.Native.Nat.{ℕ}
use borrow.Author.Tests.{eqb-true, eqb-false, eq-eqb, ne_eqb}
use lib.Dec.{eqb}
use lib.Ieee.{Float}
use Rattle.lists.specs.Lists.{Ordered, Distinct, insert}
use Rattle.lists.proofs.Bools.{cases, or_first, or_second}
use Rattle.neighbors.specs.Neighbors.{neighbours}
use Rattle.neighbors.proofs.Adjacency.{neighbours_distinct}
use Rattle.search.specs.Keys.{member, find, next}
use Rattle.table.specs.Table.{Row}
use Rattle.table.specs.Rows.{keys_of as table_keys}
use Rattle.table.proofs.Laying.{distances_of as table_distances, weights_of as table_weights}
use Rattle.marching.specs.March.{MarchedRow, marched_row, Cell, State, Field, row_before, keys_of, is_stored, waits, is_seed, seeds}
use Rattle.marching.specs.Spreading.{seed_in, any_spread, other_spread, Told, seed_at}
use Rattle.marching.proofs.KeysOnce.{Once}
use Rattle.marching.proofs.Spreading.{member_in, stored_more, other_insert, Waited, Sowing, Known}

module _ (seed : ℕ → Bool) (f : Field) where
  -- a neighbour waits now, or did already; it is told of the others as before
  pub told_on : (k n : ℕ) (ns : List ℕ) (s t : State) → Once (n ∷ ns) → Waited (n ∷ []) s t → Told seed f k (n ∷ ns) s → Told seed f k ns t
  unfolding Once member
  told_on k n ns s t o w h l i p =
      let q : is_stored l s.stored ≡ false = ap (is_stored l) (sym w.rows) ∙ p in
      let d : eqb n l ≡ false = ne_eqb n l (λ x. true≢false (sym i ∙ ap (λ (y : ℕ). member y ns) (sym x) ∙ o.0)) in
      w.cells l q ∙ rw (d, or_false (waits l s.waiting), h l (rw i (or-true (eqb n l))) q, w.rows)
    where
      or_false : (b : Bool) → b || false ≡ b
      or_false true = refl
      or_false false = refl

  -- after a new row is stored, one of its neighbours waits where another stored neighbour has spread
  new_decides : (r : MarchedRow) (s t : State)
      → is_stored r.key s.stored ≡ false
      → t.stored ≡ insert row_before r s.stored
      → ((n : ℕ) → is_stored n t.stored ≡ false → waits n t.waiting ≡ any_spread seed f s.stored (f.near n))
      → Told seed f r.key (f.near r.key) t
  new_decides r s t new e h n i o =
      h n o ∙ sym (ap (λ (l : List MarchedRow). other_spread seed f r.key l (f.near n)) e ∙ other_insert seed f r s.stored new (f.near n))

  pub sow_told : (r q : MarchedRow) (rs : List MarchedRow) (s t : State)
      → Sowing f seed (q ∷ rs) s
      → r.key ≡ q.key
      → t.stored ≡ insert row_before r s.stored
      → t.waiting ≡ s.waiting
      → Told seed f r.key (f.near r.key) t
  unfolding member
  sow_told r q rs s t h own e w =
      new_decides r s t (h.apart r.key (rw (eq-eqb q.key r.key (sym own)))) e
      (λ n o.
      let z : eqb r.key n || is_stored n s.stored ≡ false = sym (stored_more n r s.stored) ∙ ap (is_stored n) (sym e) ∙ o in
      ap (waits n) w ∙ h.exact n (or_second (eqb r.key n) (is_stored n s.stored) z))

  pub settle_told : (r : MarchedRow) (c : Cell) (cs : List Cell) (s t : State)
      → Known f seed s
      → s.waiting ≡ c ∷ cs
      → r.key ≡ c.key
      → is_stored r.key s.stored ≡ false
      → t.stored ≡ insert row_before r s.stored
      → t.waiting ≡ cs
      → Told seed f r.key (f.near r.key) t
  unfolding member
  settle_told r c cs s t h first own new e w =
      new_decides r s t new e
      (λ n o.
      let z : eqb r.key n || is_stored n s.stored ≡ false = sym (stored_more n r s.stored) ∙ ap (is_stored n) (sym e) ∙ o in
      ap (waits n) w
      ∙ others n (λ q. eqb-false r.key n (or_first (eqb r.key n) (is_stored n s.stored) z) (own ∙ q))
      ∙ h.exact n (or_second (eqb r.key n) (is_stored n s.stored) z))
    where
      others : (n : ℕ) → (c.key ≡ n → ⊥) → waits n cs ≡ waits n s.waiting
      others n q = sym (ap (waits n) first ∙ rw (ne_eqb c.key n q))

-- ---- seeds are looked up in the fused table

module _ (t : Float) where
  no_row_no_seed : (k : ℕ) (rs : List Row) → member k (table_keys rs) ≡ false → seed_in t rs k ≡ false
  unfolding seed_in member
  no_row_no_seed k [] o = refl
  no_row_no_seed k (r ∷ rs) o =
      rw (or_first (eqb r.key k) (member k (table_keys rs)) o) (no_row_no_seed k rs (or_second (eqb r.key k) (member k (table_keys rs)) o))

  -- a key is one of the seeds' where the table's row with that key is a seed
  pub seeds_looked_up : (rs : List Row) → Once (table_keys rs) → (k : ℕ) → member k (keys_of (seeds t rs)) ≡ seed_in t rs k
  unfolding seeds seed_in member Once
  seeds_looked_up [] o k = refl
  seeds_looked_up (r ∷ rs) o k =
      cases (λ (b : Bool).
      member k (keys_of (cond b (marched_row r.key r.distance ∷ seeds t rs) (seeds t rs)))
      ≡ cond (eqb r.key k) b (seed_in t rs k)) (is_seed t r)
      (λ _. rw (seeds_looked_up rs o.1 k) (first (eqb r.key k) (seed_in t rs k)))
      (λ _. rw (seeds_looked_up rs o.1 k)
      (cases (λ (b : Bool). eqb r.key k ≡ b → seed_in t rs k ≡ cond b false (seed_in t rs k)) (eqb r.key k)
      (λ _ e. no_row_no_seed k rs (ap (λ (x : ℕ). member x (table_keys rs)) (sym (eqb-true r.key k e)) ∙ o.0)) (λ _ e. refl) refl))
    where
      first : (a b : Bool) → a || b ≡ cond a true b
      first true b = refl
      first false b = refl

  -- by the place that a search finds
  pub seed_found : (rs : List Row) (k : ℕ) → seed_in t rs k ≡ seed_at t (find k (table_keys rs)) (table_distances rs) (table_weights rs)
  unfolding seed_in find seed_at
  seed_found [] k = refl
  seed_found (r ∷ rs) k =
      cases (λ (b : Bool).
      cond b (is_seed t r) (seed_in t rs k)
      ≡ seed_at t (cond b (Some 0) (next (find k (table_keys rs)))) (table_distances (r ∷ rs)) (table_weights (r ∷ rs))) (eqb r.key k)
      (λ _. refl) (λ _. seed_found rs k ∙ go (find k (table_keys rs)))
    where
      go : (w : Option ℕ) → seed_at t w (table_distances rs) (table_weights rs) ≡ seed_at t (next w) (table_distances (r ∷ rs)) (table_weights (r ∷ rs))
      go (Some i) = refl
      go None = refl

-- ---- the lattice

distinct_once : (ks : List ℕ) → Distinct ks → Once ks
unfolding Ordered Once
distinct_once [] d = tt
distinct_once (k ∷ ks) d =
    let first : member k ks ≡ false =
    cases (λ (b : Bool). member k ks ≡ b → b ≡ false) (member k ks) (λ _ e. absurd (d.0 k (member_in k ks e) refl)) (λ _ e. refl) refl in
    (first, distinct_once ks d.1)

pub neighbours_once : (k : ℕ) → Once (neighbours k)
neighbours_once k = distinct_once (neighbours k) (neighbours_distinct k)
